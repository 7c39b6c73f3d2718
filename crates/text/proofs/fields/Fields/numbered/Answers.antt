-- The first field is read, and its value compared.
use Rattle.std.proofs.Common.{sym, ap, ◌∙◌, option_map, Some}
use Rattle.text.specs.Text.{numbered}
use Rattle.text.specs.Cursor.{fields_left}
use Rattle.text.proofs.Cursors.{numbered_read, numbered_unread, then_left}
use Rattle.text.proofs.fields.Fields.numbered.Goals as goal

pub returns-in_err-number : goal.returns-in_err-number
returns-in_err-number c =
    ap (option_map fields_left) c.from_residual.ensures
    ∙ sym (ap (numbered c.args.k Some) (sym c.new-fields.ensures) ∙ numbered_unread _ _ _ c.in_err-number.ensures.value)

pub returns : goal.returns
returns c =
    ap (option_map fields_left) c.then_some.ensures ∙ then_left fields_left _ _
    ∙ sym (ap (numbered c.args.k Some) (sym c.new-fields.ensures) ∙ numbered_read _ _ _ _ c.in_ok-number.ensures.value c.in_ok-number.ensures.rest)
