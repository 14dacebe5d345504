-- The numbers and places of the faults of starts and of the state.
use Rattle.std.specs.Prelude.{ℕ}
use Rattle.space.specs.Plans.{plan_number, plan_place}
use Rattle.refusals.specs.declared.fault.FitFault.{FitFault}
use Rattle.refusals.specs.declared.fault.FitFault.TheVariants as fit
use Rattle.refusals.specs.declared.fault.StateFault.{StateFault}
use Rattle.refusals.specs.declared.fault.StateFault.TheVariants as state

abbrev pub fit_number : FitFault → ℕ
fit_number (fit.Plan f) = plan_number f
fit_number fit.Capacity = 2
fit_number fit.Table = 3

abbrev pub fit_place : FitFault → ℕ
fit_place (fit.Plan f) = plan_place f
fit_place fit.Capacity = 0
fit_place fit.Table = 0

abbrev pub state_number : StateFault → ℕ
state_number state.Void = 20
state_number state.Listed = 21
state_number state.Missing = 22
state_number state.Full = 23
state_number state.Worklist = 24
state_number state.Filled = 25
state_number state.Empty = 26
state_number state.Output = 27
