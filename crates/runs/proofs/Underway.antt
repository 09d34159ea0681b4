-- A run that is under way: the turns made so far, and one more. Assumes nothing.
use Rattle.std.proofs.Common.{◌≡◌, ℕ, ◌+◌, ◌<◌, true, leb, List, [], ◌∷◌, ◌++◌, map, length, get_or, take, drop, set, Some, vec_items, sym, refl, ap, ◌∙◌, subst, arith, length-drop}
use Rattle.std.proofs.lemmas.List.{drop_more, drop-set-lt, get_or-drop, map_push, with_items_is, take_more, take_more_set}
use Rattle.std.proofs.lemmas.Bool.{leb-false}
use Rattle.std.specs.Vec.{with_items}
use Rattle.cells.specs.Stores.{all_free}
use Rattle.cells.specs.declared.stores.Store.{Ghosts}
use Rattle.frame.specs.Refusals.{accepted}
use Rattle.rules.proofs.Cells.{story_new}
use Rattle.rules.proofs.Walks.{run_push}
use Rattle.rules.specs.Cells.{ContentsAfter}
use Rattle.rules.specs.Laws.{Lawful, refuses}
use Rattle.rules.specs.Runs.{Call, Moment, answer_of, arrived_in, moment, run, state_after}
use Rattle.rules.specs.Stories.{Story, Tied}
use Rattle.rules.specs.Switch.{Behind, Check, new_answer, new_checks, new_state, numbers}
use Rattle.rules.specs.Twins.{Addressed, AllAddressed}
use Rattle.rules.proofs.Checks.{first_passed, passed}
use Rattle.switch.proofs.Called.{Called, story_on}
use Rattle.switch.proofs.Tied.{tied}
use Rattle.switch.specs.Calls.{answer_with, buffer_after, call_with}
use Rattle.switch.specs.Switches.{cells, contents, state}
use Rattle.switch.specs.declared.calls.Answer.{Answer as Given}
use Rattle.switch.specs.declared.calls.Call.{Call as Listed}
use Rattle.switch.specs.declared.switches.Switch.{Switch}
use Rattle.switch.specs.declared.switches.starts.Settings.{Settings}
use Rattle.runs.specs.Statement.{started}
use Rattle.runs.specs.Turns.{AllMade, Made, asked}
use Rattle.runs.specs.declared.turns.Turn.{Turn}

-- one turn more
made_push : (ts : List Turn) (ms : List Moment) (us : List Turn) (t : Turn) (m : Moment) (u : Turn) → AllMade ts ms us → Made t m u → AllMade (ts ++ t ∷ []) (ms ++ m ∷ []) (us ++ u ∷ [])
made_push [] [] [] t m u so_far now = (now, tt)
made_push [] [] (x ∷ us) t m u so_far now = absurd so_far
made_push [] (x ∷ ms) us t m u so_far now = absurd so_far
made_push (x ∷ ts) [] us t m u so_far now = absurd so_far
made_push (x ∷ ts) (y ∷ ms) [] t m u so_far now = absurd so_far
made_push (x ∷ ts) (y ∷ ms) (z ∷ us) t m u so_far now = (so_far.0, made_push ts ms us t m u so_far.1 now)

pub made_as : {ts ts' us us' : List Turn} {ms ms' : List Moment} → ts ≡ ts' → ms ≡ ms' → us ≡ us' → AllMade ts' ms' us' → AllMade ts ms us
made_as {ts} {ts'} {us} {us'} {ms} {ms'} p q r all =
    subst (λ x. AllMade x ms us) (sym p) (subst (λ x. AllMade ts' x us) (sym q) (subst (λ x. AllMade ts' ms' x) (sym r) all))

addressed_push : (cs : List Call) (c : Call) → AllAddressed cs → Addressed c → AllAddressed (cs ++ c ∷ [])
addressed_push [] c so_far now = (now, tt)
addressed_push (d ∷ cs) c so_far now = (so_far.0, addressed_push cs c so_far.1 now)

-- the calls of the first i turns
abbrev pub asked_by : List Turn → ℕ → List Call
asked_by before i = map asked (take i before)

module _ {S P R F : Type 0} {store : Ghosts S} (b : Behind) (slot number rate depth : ℕ) (before : List Turn) where
  -- the first i turns were made
  pub record Underway (now : List Turn) (i : ℕ) (s : Switch S P R F store) : Type 0 where
    pub story : Story b slot number rate depth (asked_by before i) (state s) (cells s) (contents s)
    pub turns : AllMade (take i before) (run b (new_state slot number rate depth) (asked_by before i)) (take i now)
    pub rest : drop i now ≡ drop i before
    pub addressed : AllAddressed (asked_by before i)

pub underway_as : {S P R F : Type 0} {store : Ghosts S} {b b' : Behind} {slot slot' number number' rate rate' depth depth' : ℕ} {before now : List Turn} {i : ℕ} {s : Switch S P R F store} → b ≡ b' → slot ≡ slot' → number ≡ number' → rate ≡ rate' → depth ≡ depth' → Underway b slot number rate depth before now i s → Underway b' slot' number' rate' depth' before now i s
underway_as {S} {P} {R} {F} {store} {b} {b'} {slot} {slot'} {number} {number'} {rate} {rate'} {depth} {depth'} {before} {now} {i} {s} p q r u v under =
    subst (λ (X : Type 0). X) (λ j. Underway (p j) (q j) (r j) (u j) (v j) before now i s) under

-- a switch that New made is at the start of a run
pub as_started : {S P R F : Type 0} {store : Ghosts S} (s : Switch S P R F store) (settings : Settings) → accepted (state s) ≡ new_answer settings.slot settings.number settings.bucket.rate settings.bucket.depth → state s ≡ new_state (state s).slot (state s).next (state s).rate (state s).depth
as_started s settings answer =
    let is = (passed (new_checks settings.slot settings.number) [] (state s) (started settings) settings answer).0 in
    is ∙ sym (λ j. new_state (is j).slot (is j).next (is j).rate (is j).depth)

-- where New accepts its settings, the first slot is one
pub slot_below : (settings : Settings) → accepted (started settings) ≡ new_answer settings.slot settings.number settings.bucket.rate settings.bucket.depth → settings.slot < numbers
slot_below settings answer =
    let slot : Check = record { fails = leb numbers settings.slot; number = 10; value = 0 } in
    let number : Check = record { fails = leb numbers settings.number; number = 10; value = 1 } in
    leb-false numbers settings.slot (first_passed slot (number ∷ []) (started settings) (started settings) answer).0

module _ {S P R F : Type 0} {store : Ghosts S} {b : Behind} {slot number rate depth : ℕ} {before : List Turn} where
  -- no turn yet
  pub underway_new : (s : Switch S P R F store) → slot < numbers → length (cells s) ≡ 32 → cells s ≡ all_free → state s ≡ new_state slot number rate depth → Underway b slot number rate depth before before 0 s
  underway_new s small wide free is = record {
    story = subst (λ x. Story b slot number rate depth [] x (cells s) (contents s)) (sym is) (story_new b slot number rate depth (cells s) (contents s) small free (subst (λ x. Tied x (cells s) (contents s)) is (tied s wide)));
    turns = tt;
    rest = refl;
    addressed = tt;
  }

  module _ (lawful : Lawful b) {now : List Turn} {i : ℕ} {s : Switch S P R F store} (so_far : Underway b slot number rate depth before now i s) (low : i < length now) (t : Turn) (is : get_or now i t ≡ t) where
    within : i < length before
    within = omega (arith, ap length so_far.rest, length-drop i now, length-drop i before)

    same : get_or before i t ≡ t
    same = ap (λ j. get_or before j t) (omega arith) ∙ sym (get_or-drop i before 0 t) ∙ ap (λ l. get_or l 0 t) (sym so_far.rest) ∙ get_or-drop i now 0 t ∙ ap (λ j. get_or now j t) (omega arith) ∙ is

    more : take (i + 1) before ≡ take i before ++ t ∷ []
    more = take_more before i t within ∙ ap (λ x. take i before ++ x ∷ []) same

    asks : asked_by before (i + 1) ≡ asked_by before i ++ asked t ∷ []
    asks = ap (map asked) more ∙ map_push asked (take i before) t

    rest_on : drop (i + 1) now ≡ drop (i + 1) before
    rest_on =
        let x = drop_more now i t low in
        let y = drop_more before i t within in
        let e = so_far.rest in
        cc

    goes_on : run b (new_state slot number rate depth) (asked_by before (i + 1)) ≡ run b (new_state slot number rate depth) (asked_by before i) ++ moment b (state s) (asked t) ∷ []
    goes_on =
        ap (run b (new_state slot number rate depth)) asks
        ∙ run_push b (new_state slot number rate depth) (asked_by before i) (asked t)
        ∙ ap (λ x. run b (new_state slot number rate depth) (asked_by before i) ++ moment b x (asked t) ∷ []) (sym so_far.story.state)

    -- one turn more
    pub underway_on : (after : Switch S P R F store) (u : Turn) → length (cells after) ≡ 32 → Made t (moment b (state s) (asked t)) u → Called b s (asked t) after → Underway b slot number rate depth before (set now i u) (i + 1) after
    underway_on after u wide made called = record {
      story = subst (λ cs. Story b slot number rate depth cs (state after) (cells after) (contents after)) (sym asks) (story_on wide lawful called so_far.story);
      turns = made_as more goes_on (take_more_set now i u low) (made_push (take i before) (run b (new_state slot number rate depth) (asked_by before i)) (take i now) t (moment b (state s) (asked t)) u so_far.turns made);
      rest = drop-set-lt (i + 1) now i u (omega arith) ∙ rest_on;
      addressed = subst AllAddressed (sym asks) (addressed_push (asked_by before i) (asked t) so_far.addressed called.addressed);
    }

-- what a call of a list promises, by its buffer before and after it
pub record Answering {S P R F : Type 0} {store : Ghosts S} (b : Behind) (s after : Switch S P R F store) (c : Listed) (r : Given) (entry exit : List ℕ) : Type 0 where
  pub answer : answer_with r exit ≡ answer_of b (state s) (call_with c entry)
  pub buffer : exit ≡ buffer_after (answer_with r exit) entry
  pub state_is : state after ≡ state_after b (state s) (call_with c entry)
  pub contents_are : ContentsAfter (arrived_in (answer_with r exit)) (contents s) (contents after)
  pub kept : refuses (answer_with r exit) ≡ true → after ≡ s
  pub addressed : Addressed (call_with c entry)

module _ {S P R F : Type 0} {store : Ghosts S} {b : Behind} {s after : Switch S P R F store} {r : Given} {exit : List ℕ} (t : Turn) (step : Answering b s after t.call r (vec_items t.buffer) exit) where
  -- the turn with that answer was made
  pub made_so : length exit ≡ t.buffer.len → Made t (moment b (state s) (asked t)) (record { call = t.call; buffer = with_items t.buffer exit; answer = Some r })
  made_so long =
      let holds : vec_items (with_items t.buffer exit) ≡ exit = with_items_is t.buffer exit long in
      record {
        call = refl;
        answer = ap (λ x. Some (answer_with r x)) holds ∙ ap Some step.answer;
        kept = refl;
        buffer = holds ∙ step.buffer ∙ ap (λ a. buffer_after a (vec_items t.buffer)) step.answer;
      }

  pub called_so : Called b s (asked t) after
  called_so = record {
    state_is = step.state_is;
    contents_are = subst (λ a. ContentsAfter (arrived_in a) (contents s) (contents after)) step.answer step.contents_are;
    kept = λ refused. step.kept (ap refuses step.answer ∙ refused);
    addressed = step.addressed;
  }
