-- The times are copied over the row's front.
use mathlib.Core.Path.{ap, ◌∙◌}
use mathlib.Core.List.{List, ◌++◌}
use Prim.Native.Nat.{ℕ}
use lib.ListN.{length, drop}
use Rattle.network.proofs.Arcs.{written_copy}
use Rattle.network.proofs.rule.note_times.Goals as goal

pub returns : goal.returns
returns c =
    let t = c.args.times.now in
    let row = c.args.row.now in
    ap (λ (s : List ℕ). s ++ drop (length t) row) c.copy_from_slice.ensures.after ∙ written_copy t row c.requires
