-- A refusal that a program holds as the rules tell it: number, place and row.
use Rattle.std.specs.Prelude.{◌≡◌, ℕ, Some, None, Ok, Err, Option, Result}
use Rattle.rules.specs.Refusals.{Refusal, refused_at, layer_of, clip_refusal}
use Rattle.file.specs.Faults.{file_refusal}
use Rattle.file.specs.declared.fault.FileFault.TheVariants as file
use Rattle.file.specs.declared.fault.RowFault.{RowFault}
use Rattle.space.specs.declared.plan.ClipFault.{ClipFault}
use Rattle.refusals.specs.declared.fault.FitFault.{FitFault}
use Rattle.refusals.specs.declared.fault.StateFault.{StateFault}
use Rattle.refusals.specs.declared.refusal.Refusal.{Refusal as Held}
use Rattle.refusals.specs.declared.refusal.Refusal.TheVariants as held
use Rattle.refusals.specs.declared.refusal.Layer.{Layer}
use Rattle.refusals.specs.declared.refusal.Layer.TheVariants as layer
use Rattle.refusals.specs.Faults.{fit_number, fit_place, state_number}

abbrev pub fit_refusal : FitFault → Refusal
fit_refusal f = refused_at (fit_number f) (fit_place f) 0

abbrev pub state_refusal : StateFault → Refusal
state_refusal f = refused_at (state_number f) 0 0

abbrev pub numbered : Held → Refusal
numbered (held.Fit f) = fit_refusal f
numbered (held.File f) = file_refusal f
numbered (held.Clip f) = clip_refusal f
numbered (held.State f) = state_refusal f

-- the refusal of an answer, where it is one
abbrev pub refusal_of : {A : Type 0} → Result A Held → Option Refusal
refusal_of (Ok x) = None
refusal_of (Err e) = Some (numbered e)

abbrev pub layer_number : Layer → ℕ
layer_number layer.Plan = 1
layer_number layer.File = 2
layer_number layer.Clip = 3
layer_number layer.Search = 4
layer_number layer.Catalogue = 5

-- the faults of a start have the layer 1, those of a file alone 2, those of a clip 3, also in a row of a file, and those of the state 5
abbrev pub Layers : Type 0
Layers =
    ((f : FitFault) → layer_of (numbered (held.Fit f)).number ≡ 1)
    × (layer_of (numbered (held.File file.Plan)).number ≡ 2)
    × (layer_of (numbered (held.File file.Short)).number ≡ 2)
    × (layer_of (numbered (held.File file.Long)).number ≡ 2)
    × ((f : RowFault) → layer_of (numbered (held.File (file.Row f))).number ≡ 3)
    × ((f : ClipFault) → layer_of (numbered (held.Clip f)).number ≡ 3)
    × ((f : StateFault) → layer_of (numbered (held.State f)).number ≡ 5)
