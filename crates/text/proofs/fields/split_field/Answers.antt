-- The field ends at the first comma, or with the line.
use Rattle.std.proofs.Common.{◌≡◌, ◌<◌, length, get_or, rules}
use Rattle.std.proofs.lemmas.List.{take_rest}
use Rattle.text.proofs.Lines.{fields_at, fields_whole}
use Rattle.text.proofs.fields.split_field.Goals as goal

pub returns-in-Some : goal.returns-in-Some
returns-in-Some c =
    let line = c.args.line.now in
    let end = c.in-Some.end in
    let room : end < length line = search rules in
    let comma : get_or line end 0 ≡ 44 = search rules in
    simp take_rest (fields_at line end room comma (λ k h e. search rules))

pub returns-in-None : goal.returns-in-None
returns-in-None c = fields_whole c.args.line.now (λ k h e. search rules)
