use Rattle.std.proofs.Common.{length, ◌∙◌, ap, refl, arith}
use Rattle.std.proofs.lemmas.Result.{err_from_is_err_and}
use Rattle.script.proofs.Numbers.{further, parts, byte_at_place, u16_at_place, u32_at_place}
use Rattle.script.proofs.Openings.{short, long, bad_make, bad_range, bad_pages, bad_stack, formed}
use Rattle.script.proofs.opening.Opening.read.Goals as goal

pub returns-then-input-gt-LONGEST-clause-refused : goal.returns-then-input-gt-LONGEST-clause-refused
returns-then-input-gt-LONGEST-clause-refused c = long c.args.input.now _ c.if-input-gt-LONGEST.true refl

pub returns-in_err-make-clause-refused : goal.returns-in_err-make-clause-refused
returns-in_err-make-clause-refused c =
    let p = err_from_is_err_and c.from_residual.result c.from_residual.ensures.1 in
    rw (p.1, p.2) (bad_make c.args.input.now _ _ c.new-reader.ensures c.in_err-make.ensures.names_nothing c.in_err-make.ensures.refused)

pub returns-in_err-pages-clause-refused : goal.returns-in_err-pages-clause-refused
returns-in_err-pages-clause-refused c =
    let p = err_from_is_err_and c.from_residual-in_err-pages.result c.from_residual-in_err-pages.ensures.1 in
    rw (p.1, p.2) (short c.args.input.now _ (omega (arith, ap length c.new-reader.ensures, c.in_ok-make.ensures.left, c.in_err-pages.ensures.short)) c.in_err-pages.ensures.refused)

pub returns-then-pages-eq0-clause-refused : goal.returns-then-pages-eq0-clause-refused
returns-then-pages-eq0-clause-refused c =
    let bs = c.args.input.now in
    let at_1 = further bs _ _ 0 1 c.new-reader.ensures c.in_ok-make.ensures.rest in
    bad_pages bs c.in_ok-pages.pages _ (c.in_ok-pages.ensures.ok ∙ u16_at_place bs _ 1 at_1) c.then-pages-eq0.either refl

pub returns-in_err-khz-clause-refused : goal.returns-in_err-khz-clause-refused
returns-in_err-khz-clause-refused c =
    let p = err_from_is_err_and c.from_residual-in_err-khz.result c.from_residual-in_err-khz.ensures.1 in
    rw (p.1, p.2) (short c.args.input.now _ (omega (arith, ap length c.new-reader.ensures, c.in_ok-make.ensures.left, c.in_ok-pages.ensures.left, c.in_err-khz.ensures.short)) c.in_err-khz.ensures.refused)

pub returns-in_err-range-clause-refused : goal.returns-in_err-range-clause-refused
returns-in_err-range-clause-refused c =
    let bs = c.args.input.now in
    let p = err_from_is_err_and c.from_residual-in_err-range.result c.from_residual-in_err-range.ensures.1 in
    let at_1 = further bs _ _ 0 1 c.new-reader.ensures c.in_ok-make.ensures.rest in
    let at_3 = further bs _ _ 1 2 at_1 c.in_ok-pages.ensures.rest in
    let at_7 = further bs _ _ 3 4 at_3 c.in_ok-khz.ensures.rest in
    rw (p.1, p.2) (bad_range bs _ _ at_7 c.in_err-range.ensures.names_nothing c.in_err-range.ensures.refused)

pub returns-in_err-refresh_word-clause-refused : goal.returns-in_err-refresh_word-clause-refused
returns-in_err-refresh_word-clause-refused c =
    let p = err_from_is_err_and c.from_residual-in_err-refresh_word.result c.from_residual-in_err-refresh_word.ensures.1 in
    rw (p.1, p.2) (short c.args.input.now _ (omega (arith, ap length c.new-reader.ensures, c.in_ok-make.ensures.left, c.in_ok-pages.ensures.left, c.in_ok-khz.ensures.left, c.in_ok-range.ensures.left, c.in_err-refresh_word.ensures.short)) c.in_err-refresh_word.ensures.refused)

pub returns-in_err-strobe_count-clause-refused : goal.returns-in_err-strobe_count-clause-refused
returns-in_err-strobe_count-clause-refused c =
    let p = err_from_is_err_and c.from_residual-in_err-strobe_count.result c.from_residual-in_err-strobe_count.ensures.1 in
    rw (p.1, p.2) (short c.args.input.now _ (omega (arith, ap length c.new-reader.ensures, c.in_ok-make.ensures.left, c.in_ok-pages.ensures.left, c.in_ok-khz.ensures.left, c.in_ok-range.ensures.left, c.in_ok-refresh_word.ensures.left, c.in_err-strobe_count.ensures.short)) c.in_err-strobe_count.ensures.refused)

pub returns-in_err-stack-clause-refused : goal.returns-in_err-stack-clause-refused
returns-in_err-stack-clause-refused c =
    let bs = c.args.input.now in
    let p = err_from_is_err_and c.from_residual-in_err-stack.result c.from_residual-in_err-stack.ensures.1 in
    let at = parts bs _ _ _ _ _ _ _ c.new-reader.ensures c.in_ok-make.ensures.rest c.in_ok-pages.ensures.rest c.in_ok-khz.ensures.rest c.in_ok-range.ensures.rest c.in_ok-refresh_word.ensures.rest c.in_ok-strobe_count.ensures.rest in
    rw (p.1, p.2) (bad_stack bs _ c.in_ok-pages.pages _ at.stack (c.in_ok-pages.ensures.ok ∙ u16_at_place bs _ 1 at.pages) c.in_err-stack.ensures.names_nothing c.in_err-stack.ensures.refused)

pub returns-in_err-clock-clause-refused : goal.returns-in_err-clock-clause-refused
returns-in_err-clock-clause-refused c =
    let bs = c.args.input.now in
    let p = err_from_is_err_and c.from_residual-in_err-clock.result c.from_residual-in_err-clock.ensures.1 in
    let at = parts bs _ _ _ _ _ _ _ c.new-reader.ensures c.in_ok-make.ensures.rest c.in_ok-pages.ensures.rest c.in_ok-khz.ensures.rest c.in_ok-range.ensures.rest c.in_ok-refresh_word.ensures.rest c.in_ok-strobe_count.ensures.rest in
    let is = formed bs _ c.in_ok-make.make c.in_ok-pages.pages c.in_ok-khz.khz c.in_ok-range.range c.in_ok-stack.stack
    (omega (arith, ap length c.new-reader.ensures, c.in_ok-make.ensures.left, c.in_ok-pages.ensures.left, c.in_ok-khz.ensures.left, c.in_ok-range.ensures.left, c.in_ok-refresh_word.ensures.left, c.in_ok-strobe_count.ensures.left, c.in_ok-stack.ensures.there)) c.if-input-gt-LONGEST.false
    (c.in_ok-make.ensures.ok ∙ byte_at_place bs _ 0 c.new-reader.ensures) (c.in_ok-pages.ensures.ok ∙ u16_at_place bs _ 1 at.pages)
    c.if-pages-eq0.false c.if-pages-gt16.false (c.in_ok-khz.ensures.ok ∙ u32_at_place bs _ 3 at.khz)
    (c.in_ok-range.ensures.ok ∙ byte_at_place bs _ 7 at.range) at.stack c.in_ok-stack.ensures.ok in
    rw (p.1, p.2) (is.refusal ∙ c.in_err-clock.ensures.refused)

pub returns : goal.returns
returns c =
    let bs = c.args.input.now in
    let at = parts bs _ _ _ _ _ _ _ c.new-reader.ensures c.in_ok-make.ensures.rest c.in_ok-pages.ensures.rest c.in_ok-khz.ensures.rest c.in_ok-range.ensures.rest c.in_ok-refresh_word.ensures.rest c.in_ok-strobe_count.ensures.rest in
    let is = formed bs _ c.in_ok-make.make c.in_ok-pages.pages c.in_ok-khz.khz c.in_ok-range.range c.in_ok-stack.stack
    (omega (arith, ap length c.new-reader.ensures, c.in_ok-make.ensures.left, c.in_ok-pages.ensures.left, c.in_ok-khz.ensures.left, c.in_ok-range.ensures.left, c.in_ok-refresh_word.ensures.left, c.in_ok-strobe_count.ensures.left, c.in_ok-stack.ensures.there)) c.if-input-gt-LONGEST.false
    (c.in_ok-make.ensures.ok ∙ byte_at_place bs _ 0 c.new-reader.ensures) (c.in_ok-pages.ensures.ok ∙ u16_at_place bs _ 1 at.pages)
    c.if-pages-eq0.false c.if-pages-gt16.false (c.in_ok-khz.ensures.ok ∙ u32_at_place bs _ 3 at.khz)
    (c.in_ok-range.ensures.ok ∙ byte_at_place bs _ 7 at.range) at.stack c.in_ok-stack.ensures.ok in
    record {
      taken = is.refusal ∙ (c.in_ok-clock.ensures.taken.0 refl);
      ok = λ i. record {
        make = is.make i;
        pages = (c.in_ok-pages.ensures.ok ∙ u16_at_place bs _ 1 at.pages) i;
        khz = (c.in_ok-clock.ensures.ok.khz_is ∙ c.in_ok-khz.ensures.ok ∙ u32_at_place bs _ 3 at.khz) i;
        range = (c.in_ok-clock.ensures.ok.range_is ∙ is.range) i;
        refresh_word = (c.in_ok-refresh_word.ensures.ok ∙ u32_at_place bs _ 8 at.refresh) i;
        strobe_count = (c.in_ok-strobe_count.ensures.ok ∙ u16_at_place bs _ 12 at.strobes) i;
        stack = is.stack i;
      };
      refused = tt;
    }
