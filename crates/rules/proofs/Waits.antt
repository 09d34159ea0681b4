-- Where the copies of a state come from: the Arrive that laid each, its slot and class, and the queue that it waits in. Assumes nothing.
use Rattle.std.proofs.Common.{◌≡◌, ℕ, zero, suc, ◌+◌, ◌-◌, ◌<◌, ◌≤◌, Bool, true, false, cond, ◌&&◌, eqb, ltb, ◌⊎◌, List, [], ◌∷◌, ◌++◌, Some, None, sym, refl, ap, ◌∙◌, subst, inl, inr, ⊎_elim, arith}
use Rattle.std.proofs.lemmas.List.Sums.{sum_by_push}
use Rattle.std.specs.Option.{option_or, option_to_list}
use Rattle.std.specs.List.{AllByRecursion as All}
use Rattle.std.proofs.ByRecursion.{All-append, All-weaker}
use Rattle.std.proofs.lemmas.Bool.{eq-eqb}
use Rattle.rules.specs.Copies.{Copy, Egress}
use Rattle.rules.specs.Switch.{Behind, State, new_state}
use Rattle.rules.specs.Runs.{Moment, arrived_in, bit, count, sum4, numbered, queued, out_there, ends_late, ends_overdrawn, slot_after, Arrival, bytes_in, arrival_or, arrival}
use Rattle.rules.specs.Laws.{is_tick}
use Rattle.rules.proofs.Totals.{all_parts, counted, zero_or}
use Rattle.rules.proofs.Moves.{Move, queued_total}
use Rattle.rules.proofs.Calls.{New}
use Rattle.rules.proofs.Steps.{Stepped}
use Rattle.rules.proofs.Pasts.{Past, arrival_push, arrival_kept, arrival_now, few}

-- the copy c was laid by an Arrive among the moments h, and R holds of its slot and class
pub record Came (first : ℕ) (h : List Moment) (R : ℕ → ℕ → Type 0) (c : Copy) : Type 0 where
  pub at : ℕ
  pub told : arrival first c.number h ≡ Some (record { slot = at; class = c.class; bytes = c.bytes })
  pub fits : R at c.class

abbrev pub InSlot : ℕ → ℕ → ℕ → Type 0
InSlot now t k = (k ≡ 3) × (t ≡ now)

abbrev pub InLast : ℕ → ℕ → ℕ → Type 0
InLast now t k = (k ≡ 3) × (t + 1 ≡ now)

abbrev pub Other : ℕ → ℕ → Type 0
Other t k = k ≡ 3 → ⊥

abbrev pub Any : ℕ → ℕ → Type 0
Any t k = Unit {0}

came_weaker : (first : ℕ) (h : List Moment) (R Q : ℕ → ℕ → Type 0) → ((t k : ℕ) → R t k → Q t k) → (cs : List Copy) → All (Came first h R) cs → All (Came first h Q) cs
came_weaker first h R Q f = All-weaker (Came first h R) (Came first h Q) (λ c r. record { at = r.at; told = r.told; fits = f r.at c.class r.fits })

came_kept : (first : ℕ) (h : List Moment) (m : Moment) (R : ℕ → ℕ → Type 0) (cs : List Copy) → All (Came first h R) cs → All (Came first (h ++ m ∷ []) R) cs
came_kept first h m R =
    All-weaker (Came first h R) (Came first (h ++ m ∷ []) R) (λ c r. record { at = r.at; told = arrival_kept first c.number h m (record { slot = r.at; class = c.class; bytes = c.bytes }) r.told; fits = r.fits })

pub same_arrival : {x y : Arrival} → Some x ≡ Some y → x ≡ y
same_arrival h = cc

-- a number counted among such copies is that of such a frame
pub came_counted : (first : ℕ) (h : List Moment) (R : ℕ → ℕ → Type 0) (n : ℕ) (cs : List Copy) → All (Came first h R) cs → 0 < count (numbered n) cs → (a : Arrival) × (arrival first n h ≡ Some a) × R a.slot a.class
came_counted first h R n cs a l = at (counted (Came first h R) n cs a l)
  where
    at : (c : Copy) × (c.number ≡ n) × Came first h R c → (a : Arrival) × (arrival first n h ≡ Some a) × R a.slot a.class
    at (c, q, r) = (record { slot = r.at; class = c.class; bytes = c.bytes }, ap (λ x. arrival first x h) (sym q) ∙ r.told, r.fits)

-- and of this arrival, if it is known
pub came_as : (first : ℕ) (h : List Moment) (R : ℕ → ℕ → Type 0) (n : ℕ) (cs : List Copy) → All (Came first h R) cs → 0 < count (numbered n) cs → (a : Arrival) → arrival first n h ≡ Some a → R a.slot a.class
came_as first h R n cs r l a e = at (came_counted first h R n cs r l)
  where
    at : (y : Arrival) × (arrival first n h ≡ Some y) × R y.slot y.class → R a.slot a.class
    at (y, q, w) = subst (λ (z : Arrival). R z.slot z.class) (same_arrival (sym q ∙ e)) w

-- in slot `now`, where queue f fills and queue k is sent: time-sensitive copies of this slot wait in f, those of the last slot in k, and others in queues 2 and 3
pub record Waits (first f k now : ℕ) (h : List Moment) (s : State) : Type 0 where
  pub filling : (p : ℕ) → All (Came first h (InSlot now)) ((s.port p).queue f)
  pub sending : (p : ℕ) → All (Came first h (InLast now)) ((s.port p).queue k)
  pub paid : (p : ℕ) → All (Came first h Other) ((s.port p).queue 2)
  pub best : (p : ℕ) → All (Came first h Other) ((s.port p).queue 3)
  pub out : (p : ℕ) → All (Came first h Any) (option_to_list (s.port p).out)

somewhere : (f : ℕ) → f < 2 → (x : ℕ → ℕ) → 0 < sum4 x → (0 < x f) ⊎ ((0 < x (1 - f)) ⊎ ((0 < x 2) ⊎ (0 < x 3)))
somewhere f small x l = at (zero_or (x f)) (zero_or (x (1 - f))) (zero_or (x 2))
  where
    pair : (g : ℕ) → g < 2 → x g + x (1 - g) ≡ x 0 + x 1
    pair zero h = refl
    pair (suc zero) h = omega arith
    pair (suc (suc g)) h = absurd (omega arith)

    at : (x f ≡ 0) ⊎ (0 < x f) → (x (1 - f) ≡ 0) ⊎ (0 < x (1 - f)) → (x 2 ≡ 0) ⊎ (0 < x 2) → (0 < x f) ⊎ ((0 < x (1 - f)) ⊎ ((0 < x 2) ⊎ (0 < x 3)))
    at (inr a) b c = inl a
    at (inl a) (inr b) c = inr (inl b)
    at (inl a) (inl b) (inr c) = inr (inr (inl c))
    at (inl a) (inl b) (inl c) = inr (inr (inr (omega (arith, pair f small))))

-- a time-sensitive frame that is queued came in this slot or in the last
pub waiting : (first f now : ℕ) (h : List Moment) (s : State) → f < 2 → Waits first f (1 - f) now h s → (n p : ℕ) (a : Arrival) → arrival first n h ≡ Some a → a.class ≡ 3 → 0 < queued n p s → (a.slot ≡ now) ⊎ (a.slot + 1 ≡ now)
waiting first f now h s small waits n p a e c l =
    ⊎_elim
    (λ x. inl (came_as first h (InSlot now) n ((s.port p).queue f) (waits.filling p) x a e).1)
    (⊎_elim
    (λ x. inr (came_as first h (InLast now) n ((s.port p).queue (1 - f)) (waits.sending p) x a e).1)
    (⊎_elim
    (λ x. absurd (came_as first h Other n ((s.port p).queue 2) (waits.paid p) x a e c))
    (λ x. absurd (came_as first h Other n ((s.port p).queue 3) (waits.best p) x a e c))))
    (somewhere f small (λ j. count (numbered n) ((s.port p).queue j)) (omega (arith, queued_total (λ c. bit (numbered n c)) (s.port p))))

-- what holds of a queue and of what is laid there holds of all that becomes of it
pub through : {laid ended taken : ℕ → List Copy} {took left : List Copy} {e e' : Egress} → Move laid ended taken took left e e' → (P : Copy → Type 0) (j : ℕ) → All P (e.queue j) → All P (laid j) → All P (ended j) × All P (taken j) × All P (e'.queue j)
through {laid} {ended} {taken} {took} {left} {e} {e'} mv P j a b =
    let r = all_parts P (ended j) (taken j ++ e'.queue j) (subst (All P) (mv.queues j) (All-append P (e.queue j) (laid j) a b)) in
    let q = all_parts P (taken j) (e'.queue j) r.1 in
    (r.0, q.0, q.1)

module _ (first number : ℕ) (b : Behind) (h : List Moment) (m : Moment) (past : Past first number h m.before) (st : Stepped b m) where
  abbrev h' : List Moment
  h' = h ++ m ∷ []

  abbrev f : ℕ
  f = b.fill m.before.slot

  -- a copy that is laid now
  came_new : (R : ℕ → ℕ → Type 0) (j : ℕ) (c : Copy) → New f j (arrived_in m.answer) (bytes_in m.call) c → R m.before.slot c.class → Came first h' R c
  came_new R j c n r =
      record {
        at = m.before.slot;
        told =
            arrival_push first c.number h m
            ∙ ap (λ o. option_or o (arrival_now (slot_after first h) c.number m)) (past.unknown c.number (omega (arith, st.number_is n.told n.answered, n.number)))
            ∙ ap (arrival_or None (slot_after first h) c.number (bytes_in m.call)) n.answered
            ∙ ap (λ t. cond t (Some (record { slot = slot_after first h; class = n.told.class; bytes = bytes_in m.call })) None) (eq-eqb n.told.number c.number n.number)
            ∙ (λ i. Some (record { slot = sym past.slot_is i; class = n.class i; bytes = n.content i }));
        fits = r;
      }

  module _ (small : f < 2) (waits : Waits first f (1 - f) m.before.slot h m.before) where
    laid_filling : (p : ℕ) → All (Came first h' (InSlot m.before.slot)) ((st.befell p).laid f)
    laid_filling p =
        All-weaker (New f f (arrived_in m.answer) (bytes_in m.call)) (Came first h' (InSlot m.before.slot))
        (λ c n. came_new (InSlot m.before.slot) f c n
        (⊎_elim (λ q. (q.0, refl)) (λ q. absurd (⊎_elim {C = ⊥} (λ e. omega arith) (λ e. omega arith) q.1)) n.place))
        ((st.befell p).laid f) ((st.befell p).laying.new f)

    laid_other : (p j : ℕ) → 2 ≤ j → All (Came first h' Other) ((st.befell p).laid j)
    laid_other p j l =
        All-weaker (New f j (arrived_in m.answer) (bytes_in m.call)) (Came first h' Other)
        (λ c n. came_new Other j c n (⊎_elim {C = c.class ≡ 3 → ⊥} (λ q. absurd (omega (arith, q.1))) (λ q. q.0) n.place))
        ((st.befell p).laid j) ((st.befell p).laying.new j)

    abbrev now : ℕ
    now = m.before.slot

    -- all that becomes of each queue
    pub filling_on : (p : ℕ) → All (Came first h' (InSlot now)) ((st.befell p).ended f) × All (Came first h' (InSlot now)) ((st.befell p).taken f) × All (Came first h' (InSlot now)) ((m.after.port p).queue f)
    filling_on p = through (st.befell p).move (Came first h' (InSlot now)) f (came_kept first h m (InSlot now) ((m.before.port p).queue f) (waits.filling p)) (laid_filling p)

    pub sending_on : (p : ℕ) → All (Came first h' (InLast now)) ((st.befell p).ended (1 - f)) × All (Came first h' (InLast now)) ((st.befell p).taken (1 - f)) × All (Came first h' (InLast now)) ((m.after.port p).queue (1 - f))
    sending_on p =
        through (st.befell p).move (Came first h' (InLast now)) (1 - f) (came_kept first h m (InLast now) ((m.before.port p).queue (1 - f)) (waits.sending p))
        (subst (All (Came first h' (InLast now))) (sym (st.befell p).laying.sending) tt)

    pub paid_on : (p : ℕ) → All (Came first h' Other) ((st.befell p).ended 2) × All (Came first h' Other) ((st.befell p).taken 2) × All (Came first h' Other) ((m.after.port p).queue 2)
    paid_on p = through (st.befell p).move (Came first h' Other) 2 (came_kept first h m Other ((m.before.port p).queue 2) (waits.paid p)) (laid_other p 2 (omega arith))

    pub best_on : (p : ℕ) → All (Came first h' Other) ((st.befell p).ended 3) × All (Came first h' Other) ((st.befell p).taken 3) × All (Came first h' Other) ((m.after.port p).queue 3)
    best_on p = through (st.befell p).move (Came first h' Other) 3 (came_kept first h m Other ((m.before.port p).queue 3) (waits.best p)) (laid_other p 3 (omega arith))

    -- what is taken: a time-sensitive copy came in the last slot
    abbrev pub Takeable : ℕ → ℕ → Type 0
    Takeable t k = k ≡ 3 → t + 1 ≡ now

    pub taken_on : (p : ℕ) → All (Came first h' Takeable) (st.befell p).put_out
    taken_on p =
        (st.befell p).taking.from (Came first h' Takeable)
        (came_weaker first h' (InLast now) Takeable (λ t k r e. r.1) ((st.befell p).taken (1 - f)) (sending_on p).1)
        (came_weaker first h' Other Takeable (λ t k r e. absurd (r e)) ((st.befell p).taken 2) (paid_on p).1)
        (came_weaker first h' Other Takeable (λ t k r e. absurd (r e)) ((st.befell p).taken 3) (best_on p).1)

    out_on : (p : ℕ) → All (Came first h' Any) (option_to_list (m.after.port p).out)
    out_on p =
        (all_parts (Came first h' Any) (st.befell p).left (option_to_list (m.after.port p).out)
        (subst (All (Came first h' Any)) (st.befell p).move.outs
        (All-append (Came first h' Any) (option_to_list (m.before.port p).out) (st.befell p).put_out
        (came_kept first h m Any (option_to_list (m.before.port p).out) (waits.out p))
        (came_weaker first h' Takeable Any (λ t k r. tt) (st.befell p).put_out (taken_on p))))
        ).1

    waits_on : Waits first f (1 - f) now h' m.after
    waits_on = record { filling = λ p. (filling_on p).2; sending = λ p. (sending_on p).2; paid = λ p. (paid_on p).2; best = λ p. (best_on p).2; out = out_on }

    -- the next slot: what filled is sent
    waits_turn : ((p : ℕ) → (m.after.port p).queue (1 - f) ≡ []) → Waits first (1 - f) (1 - (1 - f)) (now + 1) h' m.after
    waits_turn empty =
        record {
          filling = λ p. subst (All (Came first h' (InSlot (now + 1)))) (sym (empty p)) tt;
          sending = λ p.
              let q : f ≡ 1 - (1 - f) = omega arith in
              subst (λ (j : ℕ). All (Came first h' (InLast (now + 1))) ((m.after.port p).queue j)) q
              (came_weaker first h' (InSlot now) (InLast (now + 1)) (λ t k r. (r.0, ap (λ x. x + 1) r.1)) ((m.after.port p).queue f) (filling_on p).2);
          paid = λ p. (paid_on p).2;
          best = λ p. (best_on p).2;
          out = out_on;
        }

    pub waits_push : Waits first (b.fill m.after.slot) (1 - b.fill m.after.slot) m.after.slot h' m.after
    waits_push =
        ⊎_elim
        (λ e. subst (λ (t : ℕ). Waits first (b.fill t) (1 - b.fill t) t h' m.after) (sym e) waits_on)
        (λ e.
        subst (λ (j : ℕ). Waits first j (1 - j) m.after.slot h' m.after) (sym e.1)
        (subst (λ (t : ℕ). Waits first (1 - f) (1 - (1 - f)) t h' m.after) (sym e.0) (waits_turn e.2)))
        st.turned

pub waits_new : (slot number rate depth f k : ℕ) → Waits slot f k slot [] (new_state slot number rate depth)
waits_new slot number rate depth f k = record { filling = λ p. tt; sending = λ p. tt; paid = λ p. tt; best = λ p. tt; out = λ p. tt }

-- which copies ended late, and which as overdrawn
pub record Ends (first : ℕ) (h : List Moment) (s : State) : Type 0 where
  pub late : (n p : ℕ) → 0 < count (ends_late n p) h → (a : Arrival) × (arrival first n h ≡ Some a) × (a.class ≡ 3) × (a.slot + 2 ≤ s.slot)
  pub over : (n p : ℕ) → 0 < count (ends_overdrawn n p) h → (a : Arrival) × (arrival first n h ≡ Some a) × (a.class ≡ 1)

pub ends_new : (slot number rate depth : ℕ) → Ends slot [] (new_state slot number rate depth)
ends_new slot number rate depth = record { late = λ n p h. absurd (omega arith); over = λ n p h. absurd (omega arith) }

and_le : (x y : Bool) → bit (x && y) ≤ bit x
and_le true true = omega arith
and_le true false = omega arith
and_le false y = omega arith

came_reserved : (first : ℕ) (h : List Moment) (cs : List Copy) → All (Came first h Other) cs → All (λ c. c.class ≡ 1) cs → All (Came first h (λ t k. k ≡ 1)) cs
came_reserved first h [] a b = tt
came_reserved first h (c ∷ cs) a b = (record { at = a.0.at; told = a.0.told; fits = b.0 }, came_reserved first h cs a.1 b.1)

module _ (first number : ℕ) (b : Behind) (h : List Moment) (m : Moment) (past : Past first number h m.before) (st : Stepped b m) (waits : Waits first (b.fill m.before.slot) (1 - b.fill m.before.slot) m.before.slot h m.before) where
  -- what ends late now came in the last slot
  pub late_now : (n p : ℕ) → 0 < bit (ends_late n p m) → (a : Arrival) × (arrival first n h ≡ Some a) × (a.class ≡ 3) × (a.slot + 1 ≡ m.before.slot) × (m.after.slot ≡ m.before.slot + 1)
  late_now n p l =
      let r = came_counted first h (InLast m.before.slot) n (st.befell p).late ((st.befell p).lateness.from (Came first h (InLast m.before.slot)) (waits.sending p)) (omega (arith, (st.befell p).lateness.is n (few first number b h m past st n p))) in
      (r.0, r.1, r.2.0, r.2.1, omega (arith, st.tick_is, and_le (is_tick m) (ltb 0 (queued n p m.before) && eqb (queued n p m.after + out_there n p m.after) 0), tick_bit (is_tick m)))
    where
      tick_bit : (x : Bool) → bit x ≤ 1
      tick_bit true = omega arith
      tick_bit false = omega arith

  pub over_now : (n p : ℕ) → 0 < bit (ends_overdrawn n p m) → (a : Arrival) × (arrival first n h ≡ Some a) × (a.class ≡ 1)
  over_now n p l =
      let d = st.befell p in
      came_counted first h (λ t k. k ≡ 1) n d.over (came_reserved first h d.over (d.overdraft.from (Came first h Other) (waits.paid p)) d.reserved) (omega (arith, d.overdraft.is n (few first number b h m past st n p)))

  pub ends_push : Ends first h m.before → Ends first (h ++ m ∷ []) m.after
  ends_push e =
      record {
        late = λ n p l. late_at n p (omega (arith, sum_by_push (λ x. bit (ends_late n p x)) h m)) (zero_or (count (ends_late n p) h));
        over = λ n p l. over_at n p (omega (arith, sum_by_push (λ x. bit (ends_overdrawn n p x)) h m)) (zero_or (count (ends_overdrawn n p) h));
      }
    where
      late_at : (n p : ℕ) → 0 < count (ends_late n p) h + bit (ends_late n p m) → (count (ends_late n p) h ≡ 0) ⊎ (0 < count (ends_late n p) h) → (a : Arrival) × (arrival first n (h ++ m ∷ []) ≡ Some a) × (a.class ≡ 3) × (a.slot + 2 ≤ m.after.slot)
      late_at n p l (inl z) = let r = late_now n p (omega arith) in (r.0, arrival_kept first n h m r.0 r.1, r.2, omega (arith, r.3, r.4))
      late_at n p l (inr z) = let r = e.late n p z in (r.0, arrival_kept first n h m r.0 r.1, r.2, omega (arith, r.3, st.tick_is))

      over_at : (n p : ℕ) → 0 < count (ends_overdrawn n p) h + bit (ends_overdrawn n p m) → (count (ends_overdrawn n p) h ≡ 0) ⊎ (0 < count (ends_overdrawn n p) h) → (a : Arrival) × (arrival first n (h ++ m ∷ []) ≡ Some a) × (a.class ≡ 1)
      over_at n p l (inl z) = let r = over_now n p (omega arith) in (r.0, arrival_kept first n h m r.0 r.1, r.2)
      over_at n p l (inr z) = let r = e.over n p z in (r.0, arrival_kept first n h m r.0 r.1, r.2)
