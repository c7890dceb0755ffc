-- A range rounded out to even ends. Assumes nothing.
use Rattle.std.proofs.Common.{◌≡◌, ℕ, ◌^◌, ◌<◌, Some, sym, ap, ◌∙◌}
use Rattle.std.proofs.lemmas.Bool.{cond-true, lt-ltb}
use Rattle.frame.specs.Spans.{span_same}
use Rattle.frame.specs.declared.span.Span.{Span}
use Rattle.split.specs.Splits.{rounded_span, rounded_from, rounded_to}

-- what has the rounded ends, and these fit
pub rounded_is : (s n : ℕ) (span : Span) → span.from ≡ rounded_from s → span.to ≡ rounded_to s n → rounded_to s n < 2 ^ 32 → Some span ≡ rounded_span s n
rounded_is s n span from to h = ap Some (span_same _ _ from to) ∙ sym (cond-true _ _ _ (lt-ltb _ _ h))
