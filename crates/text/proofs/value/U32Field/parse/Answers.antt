-- The value is that of the digits passed, and never too large.
use Rattle.std.proofs.Common.{◌≡◌, ◌≤◌, ◌*◌, ◌+◌, ◌-◌, get_or, rules, arith, sym, ◌∙◌}
use Rattle.text.proofs.Scans.{reading_start, no_number, reading_stop, reading_large, reading_more, reading_end}
use Rattle.text.proofs.value.U32Field.parse.Goals as goal

pub returns-then-is_empty : goal.returns-then-is_empty
returns-then-is_empty c = sym (no_number c.args.field.now (search rules))

pub loop-b-init : goal.loop-b-init
loop-b-init c = reading_start c.args.field.now (search rules)

pub returns-then-not-contains : goal.returns-then-not-contains
returns-then-not-contains c = sym (reading_stop _ _ _ c.loop-b.invariant (search rules) (λ h. search rules))

pub returns-in_err-checked_mul : goal.returns-in_err-checked_mul
returns-in_err-checked_mul c =
    let at = c.loop-b.b-index in
    let low : 48 ≤ get_or c.args.field.now at 0 = search rules in
    let high : get_or c.args.field.now at 0 ≤ 57 = search rules in
    c.from_residual.ensures ∙ sym (reading_large _ _ _ c.loop-b.invariant (search rules) low high (omega arith))

pub returns-in_err-value : goal.returns-in_err-value
returns-in_err-value c =
    let at = c.loop-b.b-index in
    let low : 48 ≤ get_or c.args.field.now at 0 = search rules in
    let high : get_or c.args.field.now at 0 ≤ 57 = search rules in
    let shifted : c.in_ok-checked_mul.field-0 ≡ c.loop-b.value * 10 = search rules in
    c.from_residual-in_err-value.ensures ∙ sym (reading_large _ _ _ c.loop-b.invariant (search rules) low high (omega arith))

pub loop-b-preserved : goal.loop-b-preserved
loop-b-preserved c =
    let at = c.loop-b.b-index in
    let low : 48 ≤ get_or c.args.field.now at 0 = search rules in
    let high : get_or c.args.field.now at 0 ≤ 57 = search rules in
    let shifted : c.in_ok-value.value ≡ c.loop-b.value * 10 + (get_or c.args.field.now at 0 - 48) = search rules in
    rw shifted (reading_more _ _ _ c.loop-b.invariant (search rules) low high (omega arith))

pub returns : goal.returns
returns c = sym (reading_end _ _ _ c.loop-b.invariant (search rules))
