-- Each case of the list comes out as the paper says, whatever program meets the contracts. Assumes nothing.
use mathlib.Core.Path.{◌≡◌, refl, ◌∙◌}
use mathlib.Core.List.{List, map, Memᴰ}
use Rattle.numbers.specs.Divisor.{gcd}
use Rattle.numbers.specs.Remainder.{remainder, quotient}
use Rattle.network.specs.PublicRule.{arc_period, slack, tension, turn_of, working, width_of, offset_of, arc_cost, cost_to}
use Rattle.network.specs.First.{first}
use Rattle.network.specs.Refusals.{answer_of, after}
use Rattle.network.specs.Table.{outside, outside_ℤ, uneven, strays, repeats, repeated, refusals_with}
use Rattle.network.specs.Rows.{written, short, noted}
use Rattle.search.specs.Reduced.{met_at, bar_of}
use Rattle.search.proofs.Model.{reduced_for, hinders, fits, tries, find, smallest_of}
use Rattle.walks.proofs.Model.{own, step, run, answer}
use Rattle.timetable.specs.Measure.{measure_refusals, measure_of}
use Rattle.timetable.specs.Solve.{solve_refusals, solve_judged}
use Rattle.timetable.specs.Rebuild.{rebuild_refusals, rebuild_judged}
use Rattle.cases.specs.Calls.{Outcome, Meets}
use Rattle.cases.proofs.Model.{measure_model, solve_model, rebuild_model, computed}
use Rattle.cases.specs.Cases.{Case, cases}
use Rattle.cases.proofs.Models.{only}

-- one test over the whole list
all : map (λ (c : Case). computed c.call) cases ≡ map (λ (c : Case). c.said) cases
unfolding gcd remainder quotient arc_period slack tension turn_of working width_of offset_of arc_cost cost_to first answer_of after outside outside_ℤ
    uneven strays repeats repeated refusals_with written short noted met_at bar_of reduced_for hinders fits tries find smallest_of own step run answer
    measure_refusals measure_of solve_refusals solve_judged rebuild_refusals rebuild_judged measure_model solve_model rebuild_model
all = refl

-- and so of each case
same-each : (f g : Case → Outcome) {c : Case} {l : List Case} → map f l ≡ map g l → Memᴰ c l → f c ≡ g c
same-each f g e (Memᴰ.head {x = x} q) = let h : f x ≡ g x = cc in rw q h
same-each f g e (Memᴰ.tail m) = same-each f g (cc) m

-- for every case of the list, whatever rows and answer the contract of its call allows are the listed ones
pub each : {c : Case} → Memᴰ c cases → {o : Outcome} → Meets c.call o → o ≡ c.said
each {c} m p = only c.call p ∙ same-each (λ (c : Case). computed c.call) (λ (c : Case). c.said) all m
