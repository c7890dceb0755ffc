-- Ranges of addresses. Assumes nothing.
use Rattle.std.specs.Prelude.{◌≡◌, ℕ, ◌+◌, ◌≤◌}
use Rattle.std.proofs.Common.{le-add_right}
use Rattle.std.specs.Coded.{le_prop}
use mathlib.Core.HLevel.{is_prop→PathP}
use Rattle.frame.specs.declared.span.Span.{Span}

-- n bytes from s
abbrev pub span_of : ℕ → ℕ → Span
span_of s n = record { from = s; to = s + n; ordered = le-add_right s n }

-- two spans with the same ends are the same
pub span_same : (s t : Span) → s.from ≡ t.from → s.to ≡ t.to → s ≡ t
span_same s t from to =
    λ i.
    record {
      from = from i;
      to = to i;
      ordered = is_prop→PathP (λ j. from j ≤ to j) (λ j. le_prop) s.ordered t.ordered i;
    }
