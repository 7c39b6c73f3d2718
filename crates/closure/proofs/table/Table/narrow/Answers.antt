-- The span is cut, and where it is less wide it is written with its ends exchanged too.
use mathlib.Core.Path.{refl, subst}
use Prim.Native.Nat.{◌<◌}
use native.Mathlib.Omega.{arith}
use Rattle.closure.specs.declared.span.Span.{Span}
use Rattle.closure.specs.Spans.{Left}
use Rattle.closure.proofs.Tables.{read_is, narrow_nothing, narrow_spanned}
use Rattle.closure.proofs.table.Table.narrow.Goals as goal

pub invariant_of-self-2 : goal.invariant_of-self-2
invariant_of-self-2 c =
    let r = c.requires in
    let old_is = read_is c.args.self.now _ _ _ c.place-there.ensures r.first r.second in
    record { spanned = narrow_spanned r old_is c.place-there.ensures c.place-back.ensures c.in_ok-span.ensures c.turned.ensures }

pub returns-in_err-span-clause-step : goal.returns-in_err-span-clause-step
returns-in_err-span-clause-step c =
    let r = c.requires in
    record {
      network = refl;
      some = λ u f. absurd (narrow_nothing r (read_is c.args.self.now _ _ _ c.place-there.ensures r.first r.second) c.in_err-span.ensures u f);
    }

pub returns-clause-narrowed : goal.returns-clause-narrowed
returns-clause-narrowed c =
    let r = c.requires in
    let old_is = read_is c.args.self.now _ _ _ c.place-there.ensures r.first r.second in
    record {
      span = c.in_ok-span.span;
      back = c.turned.result;
      narrower = subst (λ (x : Span). c.in_ok-span.span.width < x.width) old_is (omega (arith, c.if-old-span.false));
      left = subst (λ (x : Span). Left x c.args.by c.in_ok-span.span) old_is c.in_ok-span.ensures;
      turned = c.turned.ensures;
      spans = rw (c.place-there.ensures, c.place-back.ensures) refl;
    }
