-- The fields in turn, one law for each.
use Rattle.std.proofs.Common.{FitsSigned, w32, rules, sym, ◌∙◌}
use Rattle.std.proofs.lemmas.Int.{to_z-of_z}
use Rattle.text.specs.Text.{arc_of}
use Rattle.text.proofs.Cursors.{numbered_ok, field_read}
use Rattle.text.proofs.fields.ArcRecord.read.Goals as goal

pub returns : goal.returns
unfolding arc_of
returns c =
    let low : FitsSigned w32 c.in_ok-lower.lower = search rules in
    let high : FitsSigned w32 c.in_ok-upper.upper = search rules in
    simp to_z-of_z at c.end.ensures
    ∙ sym (numbered_ok _ _ _ c.in_ok-fields.ensures
    ∙ field_read _ _ _ c.in_ok-tail.ensures.value c.in_ok-tail.ensures.rest
    ∙ field_read _ _ _ c.in_ok-head.ensures.value c.in_ok-head.ensures.rest
    ∙ field_read _ _ _ c.in_ok-lower.ensures.value c.in_ok-lower.ensures.rest
    ∙ field_read _ _ _ c.in_ok-upper.ensures.value c.in_ok-upper.ensures.rest
    ∙ field_read _ _ _ c.in_ok-weight.ensures.value c.in_ok-weight.ensures.rest)
