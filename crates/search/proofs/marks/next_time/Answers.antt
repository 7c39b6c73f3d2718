-- The places before the one found are marked, and so are all where none is found.
use Rattle.std.proofs.Common.{◌≡◌, ◌<◌, true, false, ℕ, length, get_or, sym, subst, rules}
use Rattle.std.specs.List.{between}
use Rattle.search.specs.Marks.{FirstFree}
use Rattle.search.proofs.Marking.{walk_found, walk_none}
use Rattle.search.proofs.marks.next_time.Goals as goal

pub returns-in_err-passed : goal.returns-in_err-passed
returns-in_err-passed c =
    let rest = between c.skip-start.result (length c.args.row.now) c.args.row.now in
    let marked : (k : ℕ) → k < length rest → get_or rest k false ≡ true = λ k h. search rules in
    subst (FirstFree c.args.row.now c.args.from) (sym c.from_residual.ensures) (walk_none c.skip-start.ensures marked)

pub returns : goal.returns
returns c =
    let rest = between c.skip-start.result (length c.args.row.now) c.args.row.now in
    let passed = c.in_ok-passed.passed in
    let room : passed < length rest = search rules in
    let free : get_or rest passed false ≡ false = search rules in
    let marked : (k : ℕ) → k < passed → get_or rest k false ≡ true = λ k h. search rules in
    walk_found c.skip-start.ensures room marked free
