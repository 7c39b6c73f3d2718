-- No field is left, or another.
use Rattle.std.proofs.Common.{◌≡◌, is_none, ap, ◌∙◌, rules}
use Rattle.std.specs.Bool.{then_some}
use Rattle.text.proofs.Cursors.{ended}
use Rattle.text.proofs.fields.Fields.end.Goals as goal

pub returns : goal.returns
returns g c =
    let none : c.is_none.result ≡ is_none c.args.self.rest = search rules in
    c.then_some.ensures ∙ ap (λ b. then_some b c.args.value) none ∙ ended c.args.value c.args.self.rest
