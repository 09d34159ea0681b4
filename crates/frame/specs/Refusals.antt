-- What a call says that may refuse: every contract that refuses speaks through `told`. Assumes nothing.
use Rattle.std.specs.Prelude.{◌≡◌, ℕ, Some, None, Ok, Err, Option, Result}
use Rattle.frame.specs.Classes.{class_number}
use Rattle.frame.specs.declared.refusals.Refusal.{Refusal}
use Rattle.frame.specs.declared.refusals.Refusal.TheVariants.{NoSuchPort, WrongLength, NumbersUsedUp, TapPort, NoWayOut, TooFewCells, PortBusy, NotOut, ShortBuffer, BadSetting, CellNotHeld, BrokenInput}

-- the number of each refusal, and its value
abbrev pub says : Refusal → ℕ × ℕ
says (NoSuchPort port) = (1, port)
says (WrongLength length) = (2, length)
says NumbersUsedUp = (3, 0)
says (TapPort port) = (4, port)
says (NoWayOut port) = (5, port)
says (TooFewCells class) = (6, class_number class)
says (PortBusy frame) = (7, frame.0)
says (NotOut port) = (8, port)
says (ShortBuffer length) = (9, length)
says (BadSetting place) = (10, place)
says (CellNotHeld cell) = (11, cell.0)
says (BrokenInput place) = (12, place)

-- an answer, or a refusal by its number and value
pub data Told (A : Type 0) : Type 0 where
  accepted : A → Told A
  refused : ℕ → ℕ → Told A

-- what a result tells, where `view` is what an answer of the code stands for
abbrev pub told : {T A : Type 0} → (T → A) → Result T Refusal → Told A
told view (Ok x) = accepted (view x)
told view (Err e) = refused (says e).0 (says e).1

-- a refused call leaves what it was made on as it was
abbrev pub Kept : {T A : Type 0} → Result T Refusal → A → A → Type 0
Kept (Ok x) before after = Unit {0}
Kept (Err e) before after = after ≡ before

-- x, unless a setting is wrong: refusal 10 then names its place
abbrev pub unless_wrong : {A : Type 0} → Option ℕ → A → Told A
unless_wrong None x = accepted x
unless_wrong (Some place) x = refused 10 place
