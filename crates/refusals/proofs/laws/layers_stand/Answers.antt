use Rattle.std.proofs.Common.{◌≡◌, refl}
use Rattle.rules.specs.Refusals.{layer_of}
use Rattle.space.specs.Plans.{clip_number}
use Rattle.space.specs.declared.plan.PlanFault.TheVariants as plan
use Rattle.space.specs.declared.plan.ClipFault.{ClipFault}
use Rattle.space.specs.declared.plan.ClipFault.TheVariants as clip
use Rattle.refusals.specs.declared.fault.FitFault.{FitFault}
use Rattle.refusals.specs.declared.fault.FitFault.TheVariants as fit
use Rattle.refusals.specs.declared.fault.StateFault.{StateFault}
use Rattle.refusals.specs.declared.fault.StateFault.TheVariants as state
use Rattle.refusals.specs.Faults.{fit_number, state_number}
use Rattle.refusals.proofs.laws.layers_stand.Goals as goal

of_fit : (f : FitFault) → layer_of (fit_number f) ≡ 1
of_fit (fit.Plan plan.Dimensions) = refl
of_fit (fit.Plan (plan.Size p)) = refl
of_fit fit.Capacity = refl
of_fit fit.Table = refl

of_clip : (f : ClipFault) → layer_of (clip_number f) ≡ 3
of_clip clip.Number = refl
of_clip clip.Dimensions = refl
of_clip (clip.Letter p) = refl

of_state : (f : StateFault) → layer_of (state_number f) ≡ 5
of_state state.Void = refl
of_state state.Listed = refl
of_state state.Missing = refl
of_state state.Full = refl
of_state state.Worklist = refl
of_state state.Filled = refl
of_state state.Empty = refl
of_state state.Output = refl

pub returns : goal.returns
returns c = (of_fit, refl, refl, refl, λ f. of_clip f.fault, of_clip, of_state)
