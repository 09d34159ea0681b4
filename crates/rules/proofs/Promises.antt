-- What is promised of a run that is under way. Assumes nothing.
use Rattle.std.proofs.Common.{ℕ, ◌<◌, Bool, List, Option, sym, subst}
use Rattle.rules.specs.Switch.{Behind, State, new_state, numbers}
use Rattle.rules.specs.Runs.{Call, run}
use Rattle.rules.specs.Laws.{Holds, Lawful}
use Rattle.rules.specs.Promises.{Promise, moments}
use Rattle.rules.specs.Stories.{Story}
use Rattle.rules.proofs.Cells.{story_cells}
use Rattle.rules.proofs.Laws.{holds_of}

pub promised : {b : Behind} {slot number rate depth : ℕ} {calls : List Call} {s : State} {marks : List Bool} {contents : ℕ → Option ℕ} → Lawful b → slot < numbers → (st : Story b slot number rate depth calls s marks contents) → Promise b slot number rate depth calls st.events marks s
promised {b} {slot} {number} {rate} {depth} {calls} {s} lawful small st =
    let holds : Holds slot number (moments st.events) s =
    subst (λ ms. Holds slot number ms s) (sym st.moments) (subst (Holds slot number (run b (new_state slot number rate depth) calls)) (sym st.state) (holds_of b lawful slot number rate depth small calls)) in
    record { made = st.moments; state = st.state; account = holds.account; cells = story_cells lawful small st; slots = holds.slots }
