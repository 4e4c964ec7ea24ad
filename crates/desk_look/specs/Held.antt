-- RULES 14.3 and 14.4: a line's mass with the density and the phase of its state, or weighed, or its refusal; what is to spare or missing. Definitions only.
use Rattle.std.specs.Prelude.{ℕ, ◌-◌, ◌*◌, Bool, false, cond, ◌&&◌, leb, ltb, Float, Some, None, Ok, Err}
use Rattle.std.specs.Float.Ieee.{lt}
use Rattle.num_working.specs.Number.{whole}
use Rattle.equation.specs.Equation.{of1996}
use Rattle.door_limits.specs.declared.Limits.{Limits}
use Rattle.door_answers.specs.Answer.{Answer}
use Rattle.door_pressure.specs.PressureDoor.{pressure_door}
use Rattle.door_density.specs.DensityDoor.{density_door}
use Rattle.sheet_text.specs.Field.{Field}
use Rattle.sheet_mass.specs.declared.Milligrams.{Milligrams}
use Rattle.sheet_line.specs.Line.{Temperature}
use Rattle.sheet_line.specs.declared.line.Reading.{Reading}
use Rattle.sheet_line.specs.declared.line.Line.{Line}
use Rattle.sheet_outcome.specs.Outcome.{Weighed}
use Rattle.sheet_weigh.specs.Weighing.{is_volume}
use Rattle.desk_look.specs.declared.held.Look.{Look}
use Rattle.desk_look.specs.declared.held.Margin.{Margin}

-- the milligrams of a line, and the state that they are of
abbrev pub held : Milligrams → Answer → Look
held mg (Ok s) = Look.Mass (record { mg = mg; rho = s.rho; phase = s.phase })
held mg (Err n) = Look.Refused n

-- what the door says at the temperature; without one it is not asked
abbrev pub at_door : Milligrams → Temperature → (Float → Answer) → Look
at_door mg None door = Look.Refused (record { 0 = 1 })
at_door mg (Some t) door = held mg (door t)

-- more than 750 mg a mL; a line that has milligrams has a volume in its range
abbrev pub overfull : Milligrams → Field → Bool
overfull mg None = false
overfull mg (Some v) = is_volume v && ltb (750 * v) mg.0

-- the door is that of the reading's kind; a blank has none, and what was weighed is of no state
abbrev pub seen : Limits → Milligrams → Temperature → Field → Reading Float → Look
seen L mg k volume Reading.Blank = Look.Refused (record { 0 = 1 })
seen L mg k volume (Reading.Pressure p) = at_door mg k (λ t. pressure_door of1996 L t p)
seen L mg k volume (Reading.Density d) = at_door mg k (λ t. density_door of1996 L t d)
seen L mg k volume (Reading.Weighed g) = Look.Weighed (record { mg = mg; overfull = overfull mg volume })

abbrev pub looked : Limits → Weighed → Temperature → Field → Reading Float → Look
looked L (Ok mg) k volume r = seen L mg k volume r
looked L (Err n) k volume r = Look.Refused n

-- what came of the line is handed in: it hangs on the lines before too
unfoldable pub look : Limits → Weighed → Line Float → Look
look L w l = looked L w l.temperature l.volume l.reading

-- above 750 kg/m³, more than a cylinder is filled with
abbrev pub heavy : Look → Bool
heavy (Look.Mass h) = lt (whole 750) h.rho
heavy (Look.Weighed w) = w.overfull
heavy (Look.Refused n) = false

unfoldable pub margin : ℕ → ℕ → Margin
margin mg need = cond (leb need mg) (Margin.Spare (mg - need)) (Margin.Missing (need - mg))
