-- Two spans one after the other make one, where its gap divides theirs.
use mathlib.Core.Path.{refl, sym, ap, ◌∙◌}
use Rattle.closure.specs.declared.span.Span.{Span}
use Rattle.closure.proofs.Tables.{read_is, via_holds, via_asks, narrowed_tighter}
use Rattle.closure.proofs.table.Table.via.Goals as goal

pub narrow-requires : goal.narrow-requires
narrow-requires c =
    let T = c.args.self.now in
    let r = c.requires in
    let g = ap (λ (x : Span). x.gap) (read_is T _ _ _ c.place-3.ensures r.0 r.2) in
    let left = rw c.from.ensures at (sym c.rest.ensures ∙ c.if-rest-ne0.false) in
    via_asks T r.0 r.1 r.2 _ g (read_is T _ _ _ c.place.ensures r.0 r.1) (read_is T _ _ _ c.place-2.ensures r.1 r.2) refl refl left

pub returns-clause-tighter : goal.returns-clause-tighter
returns-clause-tighter c =
    let T = c.args.self.now in
    let r = c.requires in
    let g = ap (λ (x : Span). x.gap) (read_is T _ _ _ c.place-3.ensures r.0 r.2) in
    let left = rw c.from.ensures at (sym c.rest.ensures ∙ c.if-rest-ne0.false) in
    let holds = via_holds T r.0 r.1 r.2 _ g (read_is T _ _ _ c.place.ensures r.0 r.1) (read_is T _ _ _ c.place-2.ensures r.1 r.2) refl refl left in
    narrowed_tighter r.0 r.2 holds _ c.narrow.ensures.narrowed
