-- Calls performed one after the other on a session. Assumes nothing.
use Rattle.std.proofs.Common.{◌≡◌, ℕ, ◌^◌, ◌<◌, List, [], ◌∷◌, ◌++◌, length, Result, Some, sym, refl, ap, ◌∙◌, subst, append_assoc, append-nil, arith}
use Rattle.cells.specs.FreeCells.{length_marked}
use Rattle.cells.specs.Orders.{order, ring_marks}
use Rattle.cells.specs.Settings.{threshold_floors}
use Rattle.cells.specs.declared.rings.Ring.{Ring}
use Rattle.forwarding.specs.Ways.{Way}
use Rattle.frame.specs.Refusals.{Kept, Told, told}
use Rattle.frame.specs.declared.refusals.Refusal.{Refusal}
use Rattle.gates.specs.Parities.{parity_fills, parity_opens}
use Rattle.lines.specs.Lines.{Outcome, sent}
use Rattle.lines.specs.Outcomes.{outcome}
use Rattle.lines.specs.declared.outcomes.Outcome.{Outcome as Came}
use Rattle.rules.specs.Laws.{Lawful}
use Rattle.records.specs.Format.{asks, send}
use Rattle.records.specs.declared.kinds.Record.{Record}
use Rattle.frame.specs.Frames.{destination}
use Rattle.rules.specs.Cells.{ContentsAfter, OnlyFreed}
use Rattle.rules.specs.Runs as runs
use Rattle.rules.specs.Runs.{Call, Moment, answer_of, granted, last, moment, run, state_after, ticket_in}
use Rattle.rules.specs.Switch as definition
use Rattle.rules.specs.Switch.{Behind, State, arrive_answer, arrive_state, clear_answer, clear_state, take_answer, take_state, tick_answer, tick_state}
use Rattle.switch.proofs.Called.{Called, called_arrive, called_clear, called_take, called_tick, story_on}
use Rattle.switch.specs.Answers.{arrived, ticked, took}
use Rattle.switch.specs.declared.answers.Arrived.{Arrived}
use Rattle.switch.specs.declared.answers.Ticked.{Ticked}
use Rattle.egress.specs.declared.takings.Taking.{Taking}
use Rattle.switch.specs.declared.tickets.Ticket.{Ticket}
use Rattle.switch.specs.Calls.{buffer_after}
use Rattle.switch.specs.Switches as switch
use Rattle.planning.specs.Records.{buffer_left, calls_of, with_ticket}
use Rattle.planning.specs.Schedules.{by_answer, outcomes_of, port_in, told_by}
use Rattle.planning.specs.Sessions.{Performed, Underway, behind_in, buffer_in, state_in}
use Rattle.planning.specs.declared.sessions.Session.{Session}

-- a ring has 32 marks
pub ring_wide : (r : Ring) → length (ring_marks r) ≡ 32
ring_wide r = ap length (sym r.exact) ∙ length_marked (order r)

-- the planner's plan and rule keep their laws
pub lawful : {F : Type 0} (forwards : F → ℕ → ℕ → Way) (s : Session F) → Lawful (behind_in forwards s)
lawful forwards s = record { pair = λ slot low. omega arith; turns = λ slot low. omega arith; floor = refl }

-- one call
pub performed_one : {F : Type 0} (forwards : F → ℕ → ℕ → Way) (before : Session F) (c : Call) (told : List Outcome) (after : Session F) → Called (behind_in forwards before) before.switch c after.switch → switch.kinds after.switch ≡ switch.kinds before.switch → buffer_in after ≡ buffer_after (answer_of (behind_in forwards before) (state_in before) c) (buffer_in before) → told_by (port_in c) (answer_of (behind_in forwards before) (state_in before) c) ≡ told → Performed (behind_in forwards before) before (c ∷ []) told after
performed_one forwards before c told after called kinds buffer says = record {
  told = append-nil _ ∙ says;
  state = called.state_is;
  buffer = buffer;
  kinds = kinds;
  goes_on = λ slot number rate depth calls so_far. story_on (ring_wide after.switch.pool.store) (lawful forwards before) called so_far;
}

-- calls made one part after the other
run_append : (b : Behind) (s : State) (cs ds : List Call) → run b s (cs ++ ds) ≡ run b s cs ++ run b (last b s cs) ds
run_append b s [] ds = refl
run_append b s (c ∷ cs) ds = ap (λ l. moment b s c ∷ l) (run_append b (state_after b s c) cs ds)

last_append : (b : Behind) (s : State) (cs ds : List Call) → last b s (cs ++ ds) ≡ last b (last b s cs) ds
last_append b s [] ds = refl
last_append b s (c ∷ cs) ds = last_append b (state_after b s c) cs ds

outcomes_append : (ms ns : List Moment) → outcomes_of (ms ++ ns) ≡ outcomes_of ms ++ outcomes_of ns
outcomes_append [] ns = refl
outcomes_append (m ∷ ms) ns = ap (λ l. told_by (port_in m.call) m.answer ++ l) (outcomes_append ms ns) ∙ sym (append_assoc (told_by (port_in m.call) m.answer) (outcomes_of ms) (outcomes_of ns))

buffer_append : (b : Behind) (buffer : List ℕ) (ms ns : List Moment) → buffer_left b buffer (ms ++ ns) ≡ buffer_left b (buffer_left b buffer ms) ns
buffer_append b buffer [] ns = refl
buffer_append b buffer (m ∷ ms) ns = buffer_append b (buffer_after m.answer buffer) ms ns

-- no call
pub performed_none : {F : Type 0} (b : Behind) (s : Session F) → Performed b s [] [] s
performed_none b s = record {
  told = refl;
  state = refl;
  buffer = refl;
  kinds = refl;
  goes_on = λ slot number rate depth calls so_far. subst (λ cs. Underway b slot number rate depth cs s) (sym (append-nil calls)) so_far;
}

-- calls, and then further ones
pub performed_on : {F : Type 0} {b : Behind} {s t u : Session F} {cs ds : List Call} {os ps : List Outcome} → Performed b s cs os t → Performed b t ds ps u → Performed b s (cs ++ ds) (os ++ ps) u
performed_on {F} {b} {s} {t} {u} {cs} {ds} {os} {ps} one two = record {
  told =
      ap outcomes_of (run_append b (state_in s) cs ds)
      ∙ outcomes_append (run b (state_in s) cs) (run b (last b (state_in s) cs) ds)
      ∙ ap (λ l. l ++ outcomes_of (run b (last b (state_in s) cs) ds)) one.told
      ∙ ap (λ l. os ++ l) (ap (λ x. outcomes_of (run b x ds)) (sym one.state) ∙ two.told);
  state = two.state ∙ ap (λ x. last b x ds) one.state ∙ sym (last_append b (state_in s) cs ds);
  buffer =
      two.buffer
      ∙ (λ i. buffer_left b (one.buffer i) (run b (one.state i) ds))
      ∙ sym (buffer_append b (buffer_in s) (run b (state_in s) cs) (run b (last b (state_in s) cs) ds))
      ∙ ap (buffer_left b (buffer_in s)) (sym (run_append b (state_in s) cs ds));
  kinds = two.kinds ∙ one.kinds;
  goes_on = λ slot number rate depth calls so_far. subst (λ l. Underway b slot number rate depth l u) (append_assoc calls cs ds) (two.goes_on slot number rate depth (calls ++ cs) (one.goes_on slot number rate depth calls so_far));
}

-- the same kinds mean the same
pub behind_same : {F : Type 0} (forwards : F → ℕ → ℕ → Way) (s t : Session F) → switch.kinds s.switch ≡ switch.kinds t.switch → behind_in forwards s ≡ behind_in forwards t
behind_same forwards s t kinds = λ i. record { fill = parity_fills; opens = parity_opens; floor = threshold_floors (kinds i).rule; forward = forwards (kinds i).forwarding }

-- what Arrive, Tick and Clear come to, by what they promise
pub performed_arrive : {F : Type 0} (forwards : F → ℕ → ℕ → Way) (before after : Session F) (p : ℕ) (f : List ℕ) (r : Result Arrived Refusal) → told arrived r ≡ arrive_answer (behind_in forwards before) (state_in before) p f → state_in after ≡ arrive_state (behind_in forwards before) (state_in before) p f → ContentsAfter (granted (told arrived r)) (switch.contents before.switch) (switch.contents after.switch) → Kept r before.switch after.switch → destination f < 2 ^ 48 → switch.kinds after.switch ≡ switch.kinds before.switch → buffer_in after ≡ buffer_in before → Performed (behind_in forwards before) before (runs.arrive p f ∷ []) (told_by p (runs.arrived (told arrived r))) after
performed_arrive forwards before after p f r answer is held kept addressed kinds buffer = performed_one forwards before (runs.arrive p f) _ after (called_arrive r p f answer is held kept addressed) kinds buffer (ap (λ t. told_by p (runs.arrived t)) (sym answer))

pub performed_tick : {F : Type 0} (forwards : F → ℕ → ℕ → Way) (before after : Session F) (r : Result Ticked Refusal) → told ticked r ≡ tick_answer (behind_in forwards before) (state_in before) → state_in after ≡ tick_state (behind_in forwards before) (state_in before) → OnlyFreed (switch.contents before.switch) (switch.contents after.switch) → Kept r before.switch after.switch → switch.kinds after.switch ≡ switch.kinds before.switch → buffer_in after ≡ buffer_in before → Performed (behind_in forwards before) before (runs.tick ∷ []) (told_by 0 (runs.ticked (told ticked r))) after
performed_tick forwards before after r answer is held kept kinds buffer = performed_one forwards before runs.tick _ after (called_tick r answer is held kept) kinds buffer (ap (λ t. told_by 0 (runs.ticked t)) (sym answer))

pub performed_clear : {F : Type 0} (forwards : F → ℕ → ℕ → Way) (before after : Session F) (p : ℕ) (r : Result ℕ Refusal) → told (λ n. n) r ≡ clear_answer (state_in before) p → state_in after ≡ clear_state (state_in before) p → OnlyFreed (switch.contents before.switch) (switch.contents after.switch) → Kept r before.switch after.switch → switch.kinds after.switch ≡ switch.kinds before.switch → buffer_in after ≡ buffer_in before → Performed (behind_in forwards before) before (runs.clear p ∷ []) (told_by p (runs.cleared (told (λ n. n) r))) after
performed_clear forwards before after p r answer is held kept kinds buffer = performed_one forwards before (runs.clear p) _ after (called_clear r p answer is held kept) kinds buffer (ap (λ t. told_by p (runs.cleared t)) (sym answer))

-- Take, by what it promises
pub performed_take : {F : Type 0} (forwards : F → ℕ → ℕ → Way) (before after : Session F) (p : ℕ) (r : Result (Taking Ticket) Refusal) → told took r ≡ take_answer (behind_in forwards before) (state_in before) p → state_in after ≡ take_state (behind_in forwards before) (state_in before) p → OnlyFreed (switch.contents before.switch) (switch.contents after.switch) → Kept r before.switch after.switch → switch.kinds after.switch ≡ switch.kinds before.switch → buffer_in after ≡ buffer_in before → Performed (behind_in forwards before) before (runs.take p ∷ []) (told_by p (runs.took (told took r))) after
performed_take forwards before after p r answer is held kept kinds buffer = performed_one forwards before (runs.take p) _ after (called_take r p answer is held kept) kinds buffer (ap (λ t. told_by p (runs.took t)) (sym answer))

-- and what a Send is, by the answer of its Take
pub performed_send : {F : Type 0} (b : Behind) (before after : Session F) (p : ℕ) (os : List Outcome) (t : Told definition.Took) → t ≡ take_answer b (state_in before) p → Performed b before (runs.take p ∷ with_ticket (ticket_in (granted t)) (buffer_in before)) os after → Performed b before (calls_of b (state_in before) (buffer_in before) (send p)) os after
performed_send b before after p os t answer so_far = subst (λ x. Performed b before (runs.take p ∷ with_ticket (ticket_in (granted x)) (buffer_in before)) os after) answer so_far

-- a Send whose Take answered a ticket: Look and Return follow
pub performed_sent : {F : Type 0} (forwards : F → ℕ → ℕ → Way) (before mid after : Session F) (p overdrawn : ℕ) (t : definition.Ticket) (o : Outcome) → switch.kinds mid.switch ≡ switch.kinds before.switch → o ≡ sent t.port t.number overdrawn → Performed (behind_in forwards before) before (runs.take p ∷ []) (sent t.port t.number overdrawn ∷ []) mid → Performed (behind_in forwards mid) mid (with_ticket (Some t) (buffer_in before)) [] after → Performed (behind_in forwards before) before (runs.take p ∷ with_ticket (Some t) (buffer_in before)) (o ∷ []) after
performed_sent forwards before mid after p overdrawn t o kinds is one two =
    subst (λ x. Performed (behind_in forwards before) before (runs.take p ∷ with_ticket (Some t) (buffer_in before)) (x ∷ []) after) (sym is)
    (performed_on one (subst (λ b. Performed b mid (with_ticket (Some t) (buffer_in before)) [] after) (behind_same forwards mid before kinds) two))

-- what a record asks for, once it is known which record it is
pub performed_as : {F : Type 0} (b : Behind) (before after : Session F) (os : List Outcome) (asked known : Record) → asked ≡ known → Performed b before (calls_of b (state_in before) (buffer_in before) (asks known)) os after → Performed b before (calls_of b (state_in before) (buffer_in before) (asks asked)) os after
performed_as b before after os asked known is so_far = subst (λ r. Performed b before (calls_of b (state_in before) (buffer_in before) (asks r)) os after) (sym is) so_far

-- a call, once it is known which it was and what it came to
pub performed_call : {F : Type 0} (b : Behind) {before after here : Session F} {o : Outcome} {r s : Result Came Refusal} {asked known : Record} → asked ≡ known → after ≡ here → r ≡ s → by_answer (λ x. x) (told outcome r) ≡ o → Performed b before (calls_of b (state_in before) (buffer_in before) (asks known)) (by_answer (λ x. x) (told outcome s) ∷ []) here → Performed b before (calls_of b (state_in before) (buffer_in before) (asks asked)) (o ∷ []) after
performed_call {F} b {before} {after} {here} {o} {r} {s} {asked} {known} which left answered came so_far =
    performed_as b before after (o ∷ []) asked known which
    (subst (λ t. Performed b before (calls_of b (state_in before) (buffer_in before) (asks known)) (o ∷ []) t) (sym left)
    (subst (λ x. Performed b before (calls_of b (state_in before) (buffer_in before) (asks known)) (x ∷ []) here) (ap (λ x. by_answer (λ y. y) (told outcome x)) (sym answered) ∙ came) so_far))
