-- A minus or none, and then the size by its limit.
use Rattle.std.proofs.Common.{rules, ◌∙◌}
use Rattle.text.proofs.Cursors.{signed-minus, signed-plain, size_bad, size_below_zero, size_from_zero}
use Rattle.text.proofs.value.I32Field.parse.Goals as goal

pub returns-in_err-size-in-45 : goal.returns-in_err-size-in-45
returns-in_err-size-in-45 c =
    c.from_residual.ensures ∙ size_bad (signed-minus c.args.field.now (search rules) (search rules)) c.in_err-size-in-45.ensures

pub returns-in_err-size-in_default : goal.returns-in_err-size-in_default
returns-in_err-size-in_default c =
    c.from_residual-in_err-size-in_default.ensures
    ∙ size_bad (signed-plain c.args.field.now (λ h e. search rules)) c.in_err-size-in_default.ensures

pub returns-in_ok-size-in-45 : goal.returns-in_ok-size-in-45
returns-in_ok-size-in-45 c =
    size_below_zero (signed-minus c.args.field.now (search rules) (search rules)) c.in_ok-size-in-45.ensures _ c.checked_sub_unsigned.ensures

pub returns-in_ok-size-in_default : goal.returns-in_ok-size-in_default
returns-in_ok-size-in_default c =
    c.ok.ensures.value ∙ size_from_zero (signed-plain c.args.field.now (λ h e. search rules)) c.in_ok-size-in_default.ensures _ c.try_from.ensures
