-- One call on a switch, and the run that it goes on. Assumes nothing.
use Rattle.std.proofs.Common.{◌≡◌, ℕ, ◌^◌, ◌<◌, true, List, [], ◌∷◌, ◌++◌, length, Ok, Err, Result, sym, refl, ap, ◌∙◌, subst, inl}
use Rattle.std.proofs.lemmas.Bool.{true≢false}
use Rattle.cells.specs.declared.stores.Store.{Ghosts}
use Rattle.frame.specs.Frames.{destination}
use Rattle.frame.specs.Refusals.{Kept, Told, told}
use Rattle.frame.specs.declared.refusals.Refusal.{Refusal}
use Rattle.rules.proofs.Cells.{story_push}
use Rattle.rules.specs.Cells.{ContentsAfter, OnlyFreed}
use Rattle.rules.specs.Laws.{Lawful, is_refusal, refuses}
use Rattle.rules.specs.Runs as runs
use Rattle.rules.specs.Runs.{Call, answer_of, arrived_in, granted, state_after}
use Rattle.rules.specs.Stories.{Story}
use Rattle.rules.specs.Switch.{Behind, arrive_answer, arrive_state, clear_answer, clear_state, return_answer, return_state, take_answer, take_state, tick_answer, tick_state}
use Rattle.rules.specs.Twins.{Addressed}
use Rattle.egress.specs.declared.takings.Taking.{Taking}
use Rattle.switch.proofs.Tied.{tied}
use Rattle.switch.specs.Answers.{arrived, returned, ticked, took}
use Rattle.switch.specs.Switches.{cells, contents, state}
use Rattle.switch.specs.declared.answers.Arrived.{Arrived}
use Rattle.switch.specs.declared.answers.Returned.{Returned}
use Rattle.switch.specs.declared.answers.Ticked.{Ticked}
use Rattle.switch.specs.declared.tickets.Ticket.{Ticket}
use Rattle.switch.specs.declared.switches.Switch.{Switch}

-- what a call does to a switch
pub record Called {S P R F : Type 0} {store : Ghosts S} (b : Behind) (s : Switch S P R F store) (c : Call) (after : Switch S P R F store) : Type 0 where
  pub state_is : state after ≡ state_after b (state s) c
  pub contents_are : ContentsAfter (arrived_in (answer_of b (state s) c)) (contents s) (contents after)
  pub kept : refuses (answer_of b (state s) c) ≡ true → after ≡ s
  pub addressed : Addressed c

-- a run goes on by it
pub story_on : {S P R F : Type 0} {store : Ghosts S} {b : Behind} {slot number rate depth : ℕ} {calls : List Call} {s : Switch S P R F store} {c : Call} {after : Switch S P R F store} → length (cells after) ≡ 32 → Lawful b → Called b s c after → Story b slot number rate depth calls (state s) (cells s) (contents s) → Story b slot number rate depth (calls ++ c ∷ []) (state after) (cells after) (contents after)
story_on {S} {P} {R} {F} {store} {b} {slot} {number} {rate} {depth} {calls} {s} {c} {after} wide lawful called so_far =
    story_push lawful so_far c (state after) (cells after) (contents after) called.state_is called.contents_are (λ r. ap cells (called.kept r)) (tied after wide)

-- a call that says that it refuses keeps the switch
kept_by : {T A X : Type 0} (view : T → A) (r : Result T Refusal) (t : Told A) {before after : X} → told view r ≡ t → Kept r before after → is_refusal t ≡ true → after ≡ before
kept_by view (Ok x) t is kept refused = absurd (true≢false (sym refused ∙ ap is_refusal (sym is)))
kept_by view (Err e) t is kept refused = kept

module _ {S P R F : Type 0} {store : Ghosts S} {b : Behind} {s after : Switch S P R F store} where
  -- what Arrive promises
  pub called_arrive : (r : Result Arrived Refusal) (p : ℕ) (f : List ℕ) → told arrived r ≡ arrive_answer b (state s) p f → state after ≡ arrive_state b (state s) p f → ContentsAfter (granted (told arrived r)) (contents s) (contents after) → Kept r s after → destination f < 2 ^ 48 → Called b s (runs.arrive p f) after
  called_arrive r p f answer is held kept addressed = record {
    state_is = is;
    contents_are = subst (λ t. ContentsAfter (granted t) (contents s) (contents after)) answer held;
    kept = kept_by arrived r _ answer kept;
    addressed = addressed;
  }

  -- and each of the others that changes the switch: none of them lets a frame in
  pub called_tick : (r : Result Ticked Refusal) → told ticked r ≡ tick_answer b (state s) → state after ≡ tick_state b (state s) → OnlyFreed (contents s) (contents after) → Kept r s after → Called b s runs.tick after
  called_tick r answer is held kept = record { state_is = is; contents_are = held; kept = kept_by ticked r _ answer kept; addressed = tt }

  pub called_take : (r : Result (Taking Ticket) Refusal) (p : ℕ) → told took r ≡ take_answer b (state s) p → state after ≡ take_state b (state s) p → OnlyFreed (contents s) (contents after) → Kept r s after → Called b s (runs.take p) after
  called_take r p answer is held kept = record { state_is = is; contents_are = held; kept = kept_by took r _ answer kept; addressed = tt }

  pub called_return : (r : Result Returned Refusal) (p n : ℕ) → told returned r ≡ return_answer (state s) p n → state after ≡ return_state (state s) p n → OnlyFreed (contents s) (contents after) → Kept r s after → Called b s (runs.return p n) after
  called_return r p n answer is held kept = record { state_is = is; contents_are = held; kept = kept_by returned r _ answer kept; addressed = tt }

  pub called_clear : (r : Result ℕ Refusal) (p : ℕ) → told (λ n. n) r ≡ clear_answer (state s) p → state after ≡ clear_state (state s) p → OnlyFreed (contents s) (contents after) → Kept r s after → Called b s (runs.clear p) after
  called_clear r p answer is held kept = record { state_is = is; contents_are = held; kept = kept_by (λ n. n) r _ answer kept; addressed = tt }

-- Look changes nothing
pub called_look : {S P R F : Type 0} {store : Ghosts S} {b : Behind} (s : Switch S P R F store) (p n : ℕ) (buffer : List ℕ) → Called b s (runs.look p n buffer) s
called_look s p n buffer = record { state_is = refl; contents_are = λ c. inl refl; kept = λ r. refl; addressed = tt }
