-- The definitions compute what the lists of cases say. Assumes nothing.
use mathlib.Core.Path.{◌≡◌, refl}
use mathlib.Core.List.{map}
use Rattle.text.specs.Number.{digits, number, below, plain, valued, signed, last_digits, decimal, decimal_ℤ}
use Rattle.text.specs.Line.{is_break, on_first, lines, fields, joined, broken}
use Rattle.text.specs.Text.{and_then, field, end, numbered, event_of, arc_of, event_fields, arc_fields, event_layout, arc_layout}
use Rattle.text.specs.Text.{with, judged, records, enough, same, headed, told, record_lines, printed}
use Rattle.text.specs.Cases.{event_cases, arc_cases, some_periods, as_events, some_arcs, as_arcs}

pub events_tell : map (λ c. told event_layout c.text) event_cases ≡ map (λ c. c.tells) event_cases
unfolding told headed same enough records judged with event_of numbered field and_then end plain below number digits lines is_break on_first fields
events_tell = refl

pub arcs_tell : map (λ c. told arc_layout c.text) arc_cases ≡ map (λ c. c.tells) arc_cases
unfolding told headed same enough records judged with arc_of numbered field and_then end plain signed valued below number digits lines is_break on_first fields
arcs_tell = refl

pub events_print : printed event_layout some_periods ≡ as_events
unfolding printed broken record_lines joined event_fields decimal last_digits
events_print = refl

pub arcs_print : printed arc_layout some_arcs ≡ as_arcs
unfolding printed broken record_lines joined arc_fields decimal decimal_ℤ last_digits
arcs_print = refl
