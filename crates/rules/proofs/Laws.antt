-- The laws over runs. Assumes nothing.
use Rattle.std.proofs.Common.{◌≡◌, ℕ, zero, suc, ◌+◌, ◌-◌, ◌<◌, ◌≤◌, Bool, true, false, cond, not, ◌&&◌, eqb, ltb, leb, List, [], ◌∷◌, ◌++◌, length, drop, is_some, Some, None, Option, sym, refl, ap, ◌∙◌, subst, ⊎_elim, arith}
use Rattle.std.proofs.lemmas.List.Sums.{sum_by-append, sum_by-cons, sum_by_push}
use Rattle.std.specs.Option.{option_to_list}
use Rattle.std.specs.List.{AllByRecursion as All}
use Rattle.std.proofs.lemmas.Bool.{cases_Bool, lt-ltb, eq-eqb, le-leb}
use Rattle.frame.specs.Frames.{class, fits}
use Rattle.frame.specs.Numbers.{in_set}
use Rattle.frame.specs.Refusals.{Told, accepted, refused}
use Rattle.cells.specs.Rules.{admitted}
use Rattle.rules.specs.Copies.{Copy}
use Rattle.rules.specs.Switch.{Behind, State, Check, judged, Arrived, Ticked, numbers, new_state, free, way_of, set_of, is_tap, is_unknown, no_such_port, arrive_answer, out_as, not_out, out_bytes, look_answer, look_buffer, shown}
use Rattle.rules.specs.Runs.{Call, arrive, look, Answer, arrived, ticked, took, looked, returned, cleared, Moment, moment, answer_of, state_after, run, last, granted, arrived_in, ticked_in, took_in, ticket_in, total, bit, count, amount, holds, numbered, queued, out_there, lays, takes, sends, ends_late, ends_overdrawn, ends_cleared, slot_told, slot_after, Arrival, arrival}
use Rattle.rules.specs.Laws.{Lawful, Within, CameAs, is_tick, is_arrived, Account, Slots, Holds, LawsHold}
use Rattle.rules.proofs.Totals.{counted, all_counted, zero_or}
use Rattle.rules.proofs.Moves.{queued_flow, out_flow}
use Rattle.rules.proofs.Calls.{ticket_for}
use Rattle.rules.proofs.Steps.{Stepped, step, judged_passes, is_out}
use Rattle.rules.proofs.Pasts.{Past, past_new, past_push, arrival_kept, few}
use Rattle.rules.proofs.Waits.{Came, Any, came_as, Waits, waits_new, waits_push, waiting, Takeable, taken_on, Ends, ends_new, ends_push, late_now, over_now, same_arrival}
use Rattle.rules.proofs.Orders.{known, Order, order_new, order_push, taken_above, sensitive}
use Rattle.rules.proofs.Sums.{Sums, sums_new, sums_push, late_ended, over_ended, cleared_ended}
use Rattle.rules.proofs.Walks.{Met, at_end, at_each}

-- all that the moments so far and the state keep
pub record Kept (b : Behind) (slot number : ℕ) (h : List Moment) (s : State) : Type 0 where
  pub past : Past slot number h s
  pub waits : Waits slot (b.fill s.slot) (1 - b.fill s.slot) s.slot h s
  pub ends : Ends slot h s
  pub order : Order slot (b.fill s.slot) (1 - b.fill s.slot) h s
  pub sums : Sums h s

kept_new : (b : Behind) (slot number rate depth : ℕ) → slot < numbers → Kept b slot number [] (new_state slot number rate depth)
kept_new b slot number rate depth h =
    record {
      past = past_new slot number rate depth h;
      waits = waits_new slot number rate depth (b.fill slot) (1 - b.fill slot);
      ends = ends_new slot number rate depth;
      order = order_new slot number rate depth (b.fill slot) (1 - b.fill slot);
      sums = sums_new slot number rate depth;
    }

module _ (b : Behind) (lawful : Lawful b) (slot number : ℕ) where
  keeps : (h : List Moment) (m : Moment) → Kept b slot number h m.before → Stepped b m → Kept b slot number (h ++ m ∷ []) m.after
  keeps h m i st =
      let small : b.fill m.before.slot < 2 = lawful.pair m.before.slot i.past.small in
      record {
        past = past_push slot number b h m i.past st;
        waits = waits_push slot number b h m i.past st small i.waits;
        ends = ends_push slot number b h m i.past st i.waits i.ends;
        order = order_push slot number b h m i.past st small i.waits i.order;
        sums = sums_push b h m st i.sums;
      }

  kept_call : (h : List Moment) (s : State) (c : Call) → Kept b slot number h s → Kept b slot number (h ++ moment b s c ∷ []) (state_after b s c)
  kept_call h s c i = keeps h (moment b s c) i (step b lawful s i.past.small c)

  -- a moment that the definition makes, with what is kept before it
  pub record There (h : List Moment) (m : Moment) : Type 1 where
    pub kept : Kept b slot number h m.before
    pub stepped : Stepped b m
    pub defined : m.answer ≡ answer_of b m.before m.call

  there : (h : List Moment) (m : Moment) → Met b (Kept b slot number) kept_call h m → There h m
  there h m r =
      subst (There h) r.is
      (record { kept = r.inv; stepped = step b lawful r.state r.inv.past.small r.call; defined = refl })

-- a test that held at a moment is counted
counts : (test : Moment → Bool) (ms past : List Moment) (m : Moment) → Within ms past m → test m ≡ true → 0 < count test ms
counts test ms past m (future, e) h =
    omega (arith, ap (count test) e, sum_by-append (λ x. bit (test x)) past (m ∷ future), sum_by-cons (λ x. bit (test x)) m future, ap bit h)

-- a Tick takes nothing
tick_takes : (x : Answer) (e : Ticked) → ticked_in x ≡ Some e → took_in x ≡ None
tick_takes (arrived t) e h = refl
tick_takes (ticked t) e h = refl
tick_takes (took t) e h = cc
tick_takes (looked t buffer) e h = refl
tick_takes (returned t) e h = refl
tick_takes (cleared t) e h = refl

-- and a Take lays nothing
take_arrives : (x : Answer) (n p : ℕ) → ticket_for p (ticket_in (took_in x)) n ≡ true → arrived_in x ≡ None
take_arrives (arrived t) n p h = absurd (omega (arith, ap bit h))
take_arrives (ticked t) n p h = refl
take_arrives (took t) n p h = refl
take_arrives (looked t buffer) n p h = refl
take_arrives (returned t) n p h = refl
take_arrives (cleared t) n p h = refl

module _ (b : Behind) (lawful : Lawful b) (slot number : ℕ) (past : List Moment) (m : Moment) (r : There b lawful slot number past m) where
  abbrev kept : Kept b slot number past m.before
  kept = r.kept

  abbrev st : Stepped b m
  st = r.stepped

  abbrev small : b.fill m.before.slot < 2
  small = lawful.pair m.before.slot kept.past.small

  -- a ticket's copy goes from its queue to the place of the one that is out
  taken_moves : (n p : ℕ) → takes n p m ≡ true → (queued n p m.before ≡ 1) × (out_there n p m.after ≡ 1)
  taken_moves n p t =
      let w : Copy → ℕ = λ c. bit (numbered n c) in
      let d = st.befell p in
      let one : bit (takes n p m) ≡ 1 = ap bit t in
      let unlaid : bit (lays n p m) ≡ 0 = ap (λ o. bit (holds (λ a. eqb a.number n && in_set a.set p) o)) (take_arrives m.answer n p t) in
      let left : total w d.left ≡ 0 = ap (total w) (d.taking.stays n (omega arith)) in
      let q : queued n p m.before ≡ 1 = omega (arith, queued_flow d.move w, d.taking.is n, d.laying.is n, few slot number b past m kept.past st n p) in
      (q, omega (arith, out_flow d.move w, d.taking.is n, few slot number b past m kept.past st n p))

  sent_out : (n p : ℕ) → sends n p m ≡ true → out_there n p m.before ≡ 1
  sent_out n p t =
      let d = st.befell p in
      let o : List Copy = option_to_list (m.before.port p).out in
      let P : Copy → Type 0 = λ c. 0 < count (numbered c.number) o in
      let r = counted P n d.sent (d.sending.from P (all_counted P o (λ c l. l))) (omega (arith, d.sending.is n, ap bit t)) in
      let l : 0 < count (numbered n) o = subst (λ (k : ℕ). 0 < count (numbered k) o) r.1 r.2 in
      omega (arith, few slot number b past m kept.past st n p)

  taken_slot : (n p : ℕ) → takes n p m ≡ true → (a : Arrival) × (arrival slot n past ≡ Some a) × (a.class ≡ 3 → slot_after slot past ≡ a.slot + 1)
  taken_slot n p t =
      let a = known slot n p past (omega (arith, (taken_moves n p t).0, kept.past.account n p)) in (
        a.0,
        a.1,
        λ c. sym kept.past.slot_is
            ∙ sym (came_as slot (past ++ m ∷ []) (Takeable slot number b past m kept.past st small kept.waits) n (st.befell p).put_out (taken_on slot number b past m kept.past st small kept.waits p) (omega (arith, (st.befell p).taking.is n, ap bit t)) a.0 (arrival_kept slot n past m a.0 a.1) c),
      )

  late_to : (n p : ℕ) (a : Arrival) → arrival slot n past ≡ Some a → (e : Ticked) → ticked_in m.answer ≡ Some e → ends_late n p m ≡ true → (e.slot ≡ a.slot + 2) × (count (takes n p) past ≡ 0) × (count (ends_cleared n p) past ≡ 0)
  late_to n p a q e t h =
      let l = late_now slot number b past m kept.past st kept.waits n p (omega (arith, ap bit h)) in
      let same : l.0 ≡ a = same_arrival (sym l.1 ∙ q) in
      let told : m.after.slot ≡ e.slot = st.slot_is ∙ ap (slot_told m.before.slot) t in
      let was : 0 < queued n p m.before = ends_queued (is_tick m) (queued n p m.before) (eqb (queued n p m.after + out_there n p m.after) 0) h in (
        omega (arith, ap (λ x. x.slot) same, l.3, l.4),
        omega (arith, kept.past.taken n p, kept.past.once n p),
        omega (arith, kept.past.account n p, kept.past.once n p),
      )
    where
      ends_queued : (t : Bool) (x : ℕ) (y : Bool) → (t && (ltb 0 x && y)) ≡ true → 0 < x
      ends_queued false x y h = absurd (omega (arith, ap bit h))
      ends_queued true zero y h = absurd (omega (arith, ap bit h))
      ends_queued true (suc x) y h = omega arith

  -- it was still queued, and no copy that is queued in the next slot came two slots before
  late_from : (n p : ℕ) → 0 < count (lays n p) past → (a : Arrival) → arrival slot n past ≡ Some a → a.class ≡ 3 → (e : Ticked) → ticked_in m.answer ≡ Some e → e.slot ≡ a.slot + 2 → count (takes n p) past ≡ 0 → count (ends_cleared n p) past ≡ 0 → ends_late n p m ≡ true
  late_from n p laid a q c e t now untaken uncleared =
      (λ i. is_some (t i) && (lt-ltb 0 (queued n p m.before) was i && eq-eqb (queued n p m.after + out_there n p m.after) 0 gone i))
    where
      told : m.after.slot ≡ e.slot
      told = st.slot_is ∙ ap (slot_told m.before.slot) t

      ticked_on : m.after.slot ≡ m.before.slot + 1
      ticked_on = st.tick_is ∙ ap (λ o. m.before.slot + bit (is_some o)) t

      not_late : count (ends_late n p) past ≡ 0
      not_late =
          ⊎_elim (λ z. z)
          (λ z.
          let l = kept.ends.late n p z in
          let same : l.0 ≡ a = same_arrival (sym l.1 ∙ q) in
          absurd (omega (arith, l.3, ap (λ x. x.slot) same, told, ticked_on, now)))
          (zero_or (count (ends_late n p) past))

      not_over : count (ends_overdrawn n p) past ≡ 0
      not_over =
          ⊎_elim (λ z. z)
          (λ z.
          let l = kept.ends.over n p z in
          let same : l.0 ≡ a = same_arrival (sym l.1 ∙ q) in
          absurd (omega (arith, l.2, ap (λ x. x.class) same, c)))
          (zero_or (count (ends_overdrawn n p) past))

      was : 0 < queued n p m.before
      was = omega (arith, kept.past.account n p, kept.past.sent n p, not_late, not_over, untaken, uncleared, laid)

      next : Kept b slot number (past ++ m ∷ []) m.after
      next = keeps b lawful slot number past m kept st

      none_taken : bit (takes n p m) ≡ 0
      none_taken = ap (λ o. bit (ticket_for p (ticket_in o) n)) (tick_takes m.answer e t)

      not_queued : queued n p m.after ≡ 0
      not_queued =
          ⊎_elim (λ z. z)
          (λ z.
          absurd
          (⊎_elim {C = ⊥} (λ x. omega (arith, x, told, now)) (λ x. omega (arith, x, told, now))
          (waiting slot (b.fill m.after.slot) m.after.slot (past ++ m ∷ []) m.after (lawful.pair m.after.slot st.small) next.waits n p a (arrival_kept slot n past m a q) c z)))
          (zero_or (queued n p m.after))

      gone : queued n p m.after + out_there n p m.after ≡ 0
      gone = omega (arith, not_queued, next.past.sent n p, sum_by_push (λ x. bit (takes n p x)) past m, none_taken, untaken)

  taken_order : (earlier : List Moment) (e : Moment) → Within past earlier e → (n k p : ℕ) → takes n p e ≡ true → takes k p m ≡ true → (a c : Arrival) → CameAs slot past n 3 a → CameAs slot past k 3 c → n < k
  taken_order earlier e w n k p he hm a c qa qc =
      let x =
      sensitive slot (past ++ m ∷ []) (Takeable slot number b past m kept.past st small kept.waits) (λ x. n < x.number) (st.befell p).put_out
      (taken_on slot number b past m kept.past st small kept.waits p)
      (taken_above slot number b past m kept.past st small kept.waits kept.order p n a qa.0 qa.1 (counts (takes n p) past earlier e w he))
      k c (arrival_kept slot k past m c qc.0) qc.1 (omega (arith, (st.befell p).taking.is k, ap bit hm))
      in
      omega (arith, x.1, x.2)

  sent_order : (earlier : List Moment) (e : Moment) → Within past earlier e → (n k p : ℕ) → sends n p e ≡ true → sends k p m ≡ true → (a c : Arrival) → CameAs slot past n 3 a → CameAs slot past k 3 c → n < k
  sent_order earlier e w n k p he hm a c qa qc =
      let x =
      sensitive slot past Any (λ x. n < x.number) (st.befell p).sent
      ((st.befell p).sending.from (Came slot past Any) (kept.waits.out p))
      ((st.befell p).sending.from (λ x. x.class ≡ 3 → n < x.number) (kept.order.behind n p a qa.0 qa.1 (counts (sends n p) past earlier e w he)))
      k c qc.0 qc.1 (omega (arith, (st.befell p).sending.is k, ap bit hm))
      in
      omega (arith, x.1, x.2)

  shown_bytes : (p n : ℕ) (buffer : List ℕ) → m.call ≡ look p n buffer → (x : ℕ) (after : List ℕ) → m.answer ≡ looked (accepted x) after → (a : Arrival) × (arrival slot n past ≡ Some a) × (x ≡ length a.bytes) × (after ≡ a.bytes ++ drop (length a.bytes) buffer)
  shown_bytes p n buffer call x after answer = by (looked_parts (sym (ap (answer_of b m.before) call) ∙ sym r.defined ∙ answer))
    where
      s : State
      s = m.before

      looked_parts : {t u : Told ℕ} {x y : List ℕ} → looked t x ≡ looked u y → (t ≡ u) × (x ≡ y)
      looked_parts h = (cc, cc)

      by : (look_answer s p n buffer ≡ accepted x) × (look_buffer s p n buffer ≡ after) → (a : Arrival) × (arrival slot n past ≡ Some a) × (x ≡ length a.bytes) × (after ≡ a.bytes ++ drop (length a.bytes) buffer)
      by (ans, buf) =
          let f = out_bytes (out_as s p n) in
          let j = judged_passes (not_out (out_as s p n) p ∷ record { fails = ltb (length buffer) (length f); number = 9; value = length f } ∷ []) (length f) x ans in
          let o = is_out b lawful s kept.past.small p n (out_as s p n) refl j.1.0 in
          let c : Copy = o.0 in
          let bytes : f ≡ c.bytes = ap out_bytes o.1 in
          let came : Came slot past Any c = (subst (λ (q : Option Copy). All (Came slot past Any) (option_to_list q)) o.3 (kept.waits.out p)).0 in (
            record { slot = came.at; class = c.class; bytes = c.bytes },
            ap (λ k. arrival slot k past) (sym o.4) ∙ came.told,
            sym j.0 ∙ ap length bytes,
            sym buf ∙ ap (λ t. shown t f buffer) ans ∙ ap (λ g. g ++ drop (length g) buffer) bytes,
          )

  admits : (p : ℕ) (f : List ℕ) → m.call ≡ arrive p f → class f ≡ 3 → ((n v : ℕ) → m.answer ≡ arrived (refused n v) → 5 < n) → (free m.before ≡ 0 → m.answer ≡ arrived (refused 6 3)) × (0 < free m.before → is_arrived m ≡ true)
  admits p f call three high = (
    λ z. answer ∙ ap (λ k. arrived (by_free k)) z,
    λ l. ap (λ x. is_some (arrived_in x)) answer ∙ ap (λ t. is_some (granted (cond (not t) (refused 6 3) (accepted X)))) (le-leb 1 (free s) (omega arith)),
  )
    where
      s : State
      s = m.before

      X : Arrived
      X = record { number = s.next; class = class f; set = set_of (way_of b s p f) }

      by_free : ℕ → Told Arrived
      by_free k = cond (not (leb 1 k)) (refused 6 3) (accepted X)

      is_arrive : m.answer ≡ arrived (arrive_answer b s p f)
      is_arrive = r.defined ∙ ap (answer_of b s) call

      first_five : List Check
      first_five =
          no_such_port p
          ∷ record { fails = not (fits f); number = 2; value = length f }
          ∷ record { fails = leb numbers s.next; number = 3; value = 0 }
          ∷ record { fails = is_tap (way_of b s p f); number = 4; value = p }
          ∷ record { fails = is_unknown (way_of b s p f); number = 5; value = p }
          ∷ []

      sixth : Check
      sixth = record { fails = not (admitted (b.floor (class f)) (free s)); number = 6; value = class f }

      past_five : (cs : List Check) → All (λ c. c.number ≤ 5) cs → ((n v : ℕ) → judged (cs ++ sixth ∷ []) X ≡ refused n v → 5 < n) → judged (cs ++ sixth ∷ []) X ≡ judged (sixth ∷ []) X
      past_five [] l g = refl
      past_five (c ∷ cs) l g =
          ⊎_elim
          (λ t. absurd (omega (arith, l.0, g c.number c.value (ap (λ u. cond u (refused c.number c.value) (judged (cs ++ sixth ∷ []) X)) t))))
          (λ t.
          let e : judged (c ∷ cs ++ sixth ∷ []) X ≡ judged (cs ++ sixth ∷ []) X = ap (λ u. cond u (refused c.number c.value) (judged (cs ++ sixth ∷ []) X)) t in
          e ∙ past_five cs l.1 (λ n v q. g n v (e ∙ q)))
          (cases_Bool c.fails)

      answer : m.answer ≡ arrived (by_free (free s))
      answer =
          is_arrive
          ∙ ap arrived
          (past_five first_five (omega arith, (omega arith, (omega arith, (omega arith, (omega arith, tt))))) (λ n v q. high n v (is_arrive ∙ ap arrived q))
          ∙ (λ i. cond (not (leb ((ap b.floor three ∙ lawful.floor) i) (free s))) (refused 6 (three i)) (accepted X)))

module _ (b : Behind) (lawful : Lawful b) (slot number rate depth : ℕ) (small : slot < numbers) (calls : List Call) where
  abbrev start : State
  start = new_state slot number rate depth

  abbrev ms : List Moment
  ms = run b start calls

  at_last : Kept b slot number ms (last b start calls)
  at_last = at_end b (Kept b slot number) (kept_call b lawful slot number) calls [] start (kept_new b slot number rate depth small)

  at_moment : (past : List Moment) (m : Moment) → Within ms past m → There b lawful slot number past m
  at_moment past m w = there b lawful slot number past m (at_each b (Kept b slot number) (kept_call b lawful slot number) calls [] start (kept_new b slot number rate depth small) past m w)

  account : Account slot number ms (last b start calls)
  account =
      record {
        numbering = λ past m w a e. let r = at_moment past m w in r.stepped.number_is a e ∙ r.kept.past.next_is;
        once = at_last.past.once;
        copies = at_last.past.account;
        taken = λ past m w. taken_moves b lawful slot number past m (at_moment past m w);
        sent = λ past m w. sent_out b lawful slot number past m (at_moment past m w);
        late = λ past m w a e bound l. let r = at_moment past m w in sym (ap (amount (λ x. x.late)) e) ∙ late_ended slot number b past m r.kept.past r.stepped bound l;
        overdrawn = λ past m w a e bound l. let r = at_moment past m w in sym (ap (amount (λ x. x.overdrawn)) e) ∙ over_ended slot number b past m r.kept.past r.stepped bound l;
        cleared = λ past m w a e bound l. let r = at_moment past m w in sym (ap (amount (λ x. x)) e) ∙ cleared_ended slot number b past m r.kept.past r.stepped bound l;
        sums = at_last.sums.sums;
      }

  slots : Slots slot number ms (last b start calls)
  slots =
      record {
        slots = λ past m w. let i = (at_moment past m w).kept.past in (i.slot_is, sym i.slot_is ∙ i.ticks);
        last_slot = (at_last.past.slot_is, sym at_last.past.slot_is ∙ at_last.past.ticks);
        taken = λ past m w. taken_slot b lawful slot number past m (at_moment past m w);
        late = λ past m w n p l a c t h.
            let r = at_moment past m w in (
              late_to b lawful slot number past m r n p a c.0 t h,
              λ g. late_from b lawful slot number past m r n p l a c.0 c.1 t h g.0 g.1 g.2,
            );
        late_class = λ past m w n p h.
            let r = at_moment past m w in
            let x = late_now slot number b past m r.kept.past r.stepped r.kept.waits n p (omega (arith, ap bit h)) in
            (x.0, (x.1, x.2));
        overdrawn_class = λ past m w n p h.
            let r = at_moment past m w in
            let x = over_now slot number b past m r.kept.past r.stepped r.kept.waits n p (omega (arith, ap bit h)) in
            (x.0, (x.1, x.2));
        taken_rising = λ past m w. taken_order b lawful slot number past m (at_moment past m w);
        sent_rising = λ past m w. sent_order b lawful slot number past m (at_moment past m w);
        shown = λ past m w. shown_bytes b lawful slot number past m (at_moment past m w);
      }

  pub holds_of : Holds slot number ms (last b start calls)
  holds_of = record { account = account; slots = slots; admission = record { cells = λ past m w. admits b lawful slot number past m (at_moment past m w) } }

pub laws_hold : LawsHold
laws_hold b lawful slot number rate depth small calls = holds_of b lawful slot number rate depth small calls
