-- The first line is the header, and the records follow it.
use Rattle.std.proofs.Common.{rules, ◌≡◌, ◌<◌, ◌≤◌, ◌≢◌, [], ◌∷◌, Err, sym, ◌∙◌, arith}
use Rattle.text.specs.Line.{lines}
use Rattle.text.specs.Cursor.{lines_left}
use Rattle.text.specs.declared.Fault.{Fault}
use Rattle.text.proofs.Judges.{header_none, header_other, judge_start, judge_few, judge_end, judge_many, judge_bad, judge_more}
use Rattle.text.proofs.judge.judge.Goals.{then-records-MOST-via-then-records-MOST, then-records-MOST-via-else-records-MOST+then-is_none}
use Rattle.text.proofs.judge.judge.Goals as goal

pub returns-in_err-header : goal.returns-in_err-header
returns-in_err-header g c =
    let none : lines c.args.text.now ≡ [] = search rules in
    let wrong : c.from_residual.result ≡ Err Fault.Header = search rules in
    wrong ∙ sym (header_none g.R.Record.layout c.args.text.now none)

pub returns-then-ne : goal.returns-then-ne
returns-then-ne g c =
    let first : lines c.args.text.now ≡ c.in_ok-header.header.now ∷ lines_left c.next.new.self = search rules in
    let other : c.in_ok-header.header.now ≢ g.R.Record.layout.header = search rules in
    sym (header_other g.R.Record.layout c.args.text.now first other)

pub loop-line-init : goal.loop-line-init
loop-line-init g c =
    let first : lines c.args.text.now ≡ c.in_ok-header.header.now ∷ lines_left c.into_iter-line-iterator.result = search rules in
    let right : c.in_ok-header.header.now ≡ g.R.Record.layout.header = search rules in
    judge_start g.R.Record.layout c.args.text.now first right

pub returns-then-records-MOST : goal.returns-then-records-MOST
returns-then-records-MOST g c =
    let L = g.R.Record.layout in
    let text = c.args.text.now in
    let so = c.loop-line.invariant in
    elim c.then-records-MOST.branch [
      | then-records-MOST-via-then-records-MOST w ↦ (
          let full : L.most ≤ c.loop-line.records = omega (arith, g.met.R.Record.most) in
          sym (judge_many L text so c.in-Some.ensures.steps full))
      | then-records-MOST-via-else-records-MOST+then-is_none w ↦ (
          let under : c.loop-line.records < L.most = omega (arith, g.met.R.Record.most) in
          sym (judge_bad L text so c.in-Some.ensures.steps under (search rules)))
    ]

pub loop-line-preserved : goal.loop-line-preserved
loop-line-preserved g c =
    let under : c.loop-line.records < g.R.Record.layout.most = omega (arith, g.met.R.Record.most) in
    judge_more g.R.Record.layout c.args.text.now c.loop-line.invariant c.in-Some.ensures.steps under (search rules)

pub returns-then-records-LEAST : goal.returns-then-records-LEAST
returns-then-records-LEAST g c =
    let few : c.loop-line.records < g.R.Record.layout.least = omega (arith, g.met.R.Record.least) in
    sym (judge_few g.R.Record.layout c.args.text.now c.loop-line.invariant (search rules) few)

pub returns : goal.returns
returns g c =
    let many : g.R.Record.layout.least ≤ c.loop-line.records = omega (arith, g.met.R.Record.least) in
    sym (judge_end g.R.Record.layout c.args.text.now c.loop-line.invariant (search rules) many)
