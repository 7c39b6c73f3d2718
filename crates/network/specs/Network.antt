-- A network: six rows. Events and arcs are numbered from 0. Definitions alone.
use Rattle.std.specs.Prelude.{List, ℕ, ℤ, length}
use Rattle.std.specs.Borrow.{Bor}
use denote.Triple.Both.{Both}
use Rattle.numbers.specs.Row.{at, at_ℤ}

pub record Network : Type 0 where
  pub periods : List ℕ
  pub tails : List ℕ
  pub heads : List ℕ
  pub lowers : List ℤ
  pub uppers : List ℤ
  pub weights : List ℕ

-- the network of six rows, and of six lent rows
abbrev pub net : List ℕ → List ℕ → List ℕ → List ℤ → List ℤ → List ℕ → Network
net p t h l u w = record { periods = p; tails = t; heads = h; lowers = l; uppers = u; weights = w }

abbrev pub net_of : Bor (List ℕ) → Bor (List ℕ) → Bor (List ℕ) → Bor (List ℤ) → Bor (List ℤ) → Bor (List ℕ) → Network
net_of p t h l u w = net p.now t.now h.now l.now u.now w.now

-- of six parameters of a call: as they are lent, and as the call leaves them
abbrev pub net_at : {A B C D E F : Type 0} → Both (Bor (List ℕ)) A → Both (Bor (List ℕ)) B → Both (Bor (List ℕ)) C → Both (Bor (List ℤ)) D
    → Both (Bor (List ℤ)) E → Both (Bor (List ℕ)) F → Network
net_at p t h l u w = net_of p.entry t.entry h.entry l.entry u.entry w.entry

-- n, the number of events, and m, the number of arcs
abbrev pub events : Network → ℕ
events N = length N.periods

abbrev pub arcs : Network → ℕ
arcs N = length N.tails

-- of event v
abbrev pub period : Network → ℕ → ℕ
period N v = at N.periods v

-- of arc a
abbrev pub tail : Network → ℕ → ℕ
tail N a = at N.tails a

abbrev pub head : Network → ℕ → ℕ
head N a = at N.heads a

abbrev pub lower : Network → ℕ → ℤ
lower N a = at_ℤ N.lowers a

abbrev pub upper : Network → ℕ → ℤ
upper N a = at_ℤ N.uppers a

abbrev pub weight : Network → ℕ → ℕ
weight N a = at N.weights a
