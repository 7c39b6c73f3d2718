-- A table of refusals, and the answer that follows from it: code, order and place. Definitions alone.
use Rattle.std.specs.Prelude.{List, [], ◌∷◌, Bool, false, cond, Result, Ok, Err, ℕ, ltb, eqb}
use Rattle.network.specs.declared.Answer.{Answer}
use Rattle.network.specs.declared.Code.{Code}
use Rattle.network.specs.declared.Code.TheVariants.{EventCount, Period, ArcRows, Ends, Loop, Lower, Upper, Weight, Room, Infeasible, OtherPeriod, Tension}
use Rattle.network.specs.declared.Code.TheVariants.{Walk, Late, Unmet, Header, Record, Repeat}
use Rattle.network.specs.declared.Counts.{Counts}
use Rattle.network.specs.declared.Filled.{Filled}
use Rattle.network.specs.declared.Refused.{Refused}
use Rattle.network.specs.First.{first}

abbrev pub answer : ℕ → ℕ → ℕ → Answer
answer c p x = record { code = c; place = p; cost = x }

-- of a call that fills: entries or bytes of the events, and of the arcs
abbrev pub filled : ℕ → ℕ → ℕ → ℕ → Filled
filled c p n m = record { code = c; place = p; cost = 0; events = n; arcs = m }

-- the number of a code in the table
abbrev pub number : Code → ℕ
number EventCount = 1
number Period = 2
number ArcRows = 3
number Ends = 4
number Loop = 5
number Lower = 6
number Upper = 7
number Weight = 8
number Room = 9
number Infeasible = 10
number OtherPeriod = 11
number Tension = 12
number Walk = 13
number Late = 14
number Unmet = 15
number Header = 16
number Record = 17
number Repeat = 18

abbrev pub refused_at : Code → ℕ → Refused
refused_at c p = record { code = c; place = p }

-- a call's result as an answer: the cost under code 0, or a refusal's number and place
abbrev pub answered : Result ℕ Refused → Answer
answered (Ok cost) = answer 0 0 cost
answered (Err r) = answer (number r.code) r.place 0

-- the same of a call that fills
abbrev pub counted : Result Counts Refused → Filled
counted (Ok c) = filled 0 0 c.events c.arcs
counted (Err r) = filled (number r.code) r.place 0 0

-- a line of the table: its code, how many places it is tried at, and whether it applies at a place
pub record Refusal : Type 0 where
  pub code : ℕ
  pub places : ℕ
  pub applies : ℕ → Bool

-- tried once, at place 0; tried at each of n places
abbrev pub once : ℕ → Bool → Refusal
once c b = record { code = c; places = 1; applies = λ i. b }

abbrev pub each : ℕ → ℕ → (ℕ → Bool) → Refusal
each c n test = record { code = c; places = n; applies = test }

-- the line of a code, or one that never applies
abbrev pub never : Refusal
never = record { code = 0; places = 0; applies = λ i. false }

unfoldable pub named : ℕ → List Refusal → Refusal
named c [] = never
named c (r ∷ rs) = cond (eqb r.code c) r (named c rs)

-- the lines before that of a code
unfoldable pub lines_before : ℕ → List Refusal → List Refusal
lines_before c [] = []
lines_before c (r ∷ rs) = cond (eqb r.code c) [] (r ∷ lines_before c rs)

-- the first place at which a line applies
abbrev pub place_of : Refusal → ℕ
place_of r = first r.applies r.places

-- the first line that applies, at its first place and with cost 0; where none does, success with this cost
unfoldable pub answer_of : List Refusal → ℕ → Answer
answer_of [] cost = answer 0 0 cost
answer_of (r ∷ rs) cost = cond (ltb (place_of r) r.places) (answer r.code (place_of r) 0) (answer_of rs cost)

-- what is lent, after a call: written under code 0, as it was under any other
unfoldable pub after : {A : Type 0} → Answer → A → A → A
after r new was = cond (eqb r.code 0) new was

-- the counts with an answer: 0 under any code but 0
unfoldable pub filled_as : Answer → ℕ → ℕ → Filled
filled_as r n m = filled r.code r.place (cond (eqb r.code 0) n 0) (cond (eqb r.code 0) m 0)
