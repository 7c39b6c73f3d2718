-- The line ends at the first line break, or with the text.
use Rattle.std.proofs.Common.{◌≡◌, ◌≤◌, ◌+◌, [], length, get_or, refl, rules}
use Rattle.std.proofs.lemmas.List.{take_rest}
use Rattle.text.proofs.Lines.{lines_none, lines_at_break, lines_without_break}
use Rattle.text.proofs.cursor.split_line.Goals as goal

pub returns-in-Some : goal.returns-in-Some
returns-in-Some c =
    let text = c.args.text.now in
    let end = c.in-Some.end in
    let room : end + 2 ≤ length text = search rules in
    let first : get_or text end 0 ≡ 13 = search rules in
    let second : get_or text (end + 1) 0 ≡ 10 = search rules in
    simp take_rest (lines_at_break text end room first second (λ k h e f. search rules))

pub returns-in-None : goal.returns-in-None
returns-in-None c =
    let text = c.args.text.now in
    rw (lines_none [] refl) (lines_without_break text c.requires (λ k h e f. search rules))
