-- What holds of the moments so far and the state that they lead to: slots, numbers and the account of every copy. Assumes nothing.
use Rattle.std.proofs.Common.{◌≡◌, ℕ, ◌+◌, ◌<◌, ◌≤◌, Bool, true, false, cond, ◌&&◌, eqb, ◌⊎◌, List, [], ◌∷◌, ◌++◌, is_some, Some, None, Option, sym, refl, ap, ◌∙◌, inl, inr, ⊎_elim, arith}
use Rattle.std.proofs.lemmas.List.Sums.{sum_by_push}
use Rattle.std.specs.Option.{option_or}
use Rattle.std.proofs.lemmas.Bool.{eqb-true, ne_eqb}
use Rattle.frame.specs.Numbers.{in_set}
use Rattle.rules.specs.Copies.{Copy}
use Rattle.rules.specs.Switch.{Behind, State, Arrived, numbers, new_state}
use Rattle.rules.specs.Runs.{Moment, arrived_in, ticked_in, bit, count, holds, numbered, queued, out_there, lays, takes, sends, ends_late, ends_overdrawn, ends_cleared, slot_told, slot_after, Arrival, bytes_in, arrival_or, arrival}
use Rattle.rules.specs.Laws.{is_tick, is_arrived}
use Rattle.rules.proofs.Moves.{queued_flow, out_flow}
use Rattle.rules.proofs.Steps.{Stepped}

-- one moment more
pub slot_push : (s : ℕ) (h : List Moment) (m : Moment) → slot_after s (h ++ m ∷ []) ≡ slot_told (slot_after s h) (ticked_in m.answer)
slot_push s [] m = refl
slot_push s (x ∷ h) m = slot_push (slot_told s (ticked_in x.answer)) h m

arrival_first : (x y : Option Arrival) (s n : ℕ) (f : List ℕ) (o : Option Arrived) → arrival_or (option_or x y) s n f o ≡ option_or (arrival_or x s n f o) y
arrival_first x y s n f None = refl
arrival_first x y s n f (Some a) = at (eqb a.number n)
  where
    at : (t : Bool) → cond t (Some (record { slot = s; class = a.class; bytes = f })) (option_or x y) ≡ option_or (cond t (Some (record { slot = s; class = a.class; bytes = f })) x) y
    at true = refl
    at false = refl

abbrev pub arrival_now : ℕ → ℕ → Moment → Option Arrival
arrival_now s n m = arrival_or None s n (bytes_in m.call) (arrived_in m.answer)

pub arrival_push : (s n : ℕ) (h : List Moment) (m : Moment) → arrival s n (h ++ m ∷ []) ≡ option_or (arrival s n h) (arrival_now (slot_after s h) n m)
arrival_push s n [] m = refl
arrival_push s n (x ∷ h) m =
    let t : ℕ = slot_told s (ticked_in x.answer) in
    ap (λ y. arrival_or y s n (bytes_in x.call) (arrived_in x.answer)) (arrival_push t n h m)
    ∙ arrival_first (arrival t n h) (arrival_now (slot_after t h) n m) s n (bytes_in x.call) (arrived_in x.answer)

-- what was known stays
pub arrival_kept : (s n : ℕ) (h : List Moment) (m : Moment) (a : Arrival) → arrival s n h ≡ Some a → arrival s n (h ++ m ∷ []) ≡ Some a
arrival_kept s n h m a e = arrival_push s n h m ∙ ap (λ o. option_or o (arrival_now (slot_after s h) n m)) e

pub record Past (slot number : ℕ) (h : List Moment) (s : State) : Type 0 where
  pub slot_is : s.slot ≡ slot_after slot h
  pub ticks : s.slot ≡ slot + count is_tick h
  pub small : s.slot < numbers
  pub next_is : s.next ≡ number + count is_arrived h
  pub unknown : (n : ℕ) → s.next ≤ n → arrival slot n h ≡ None
  pub unlaid : (n p : ℕ) → s.next ≤ n → count (lays n p) h ≡ 0
  pub once : (n p : ℕ) → count (lays n p) h ≤ 1
  pub account : (n p : ℕ) → count (lays n p) h ≡ count (sends n p) h + count (ends_late n p) h + count (ends_overdrawn n p) h + count (ends_cleared n p) h + queued n p s + out_there n p s
  pub taken : (n p : ℕ) → count (takes n p) h + queued n p s ≤ count (lays n p) h
  pub sent : (n p : ℕ) → count (sends n p) h + out_there n p s ≤ count (takes n p) h

pub past_new : (slot number rate depth : ℕ) → slot < numbers → Past slot number [] (new_state slot number rate depth)
past_new slot number rate depth h =
    record {
      slot_is = refl;
      ticks = omega arith;
      small = h;
      next_is = omega arith;
      unknown = λ n l. refl;
      unlaid = λ n p l. refl;
      once = λ n p. omega arith;
      account = λ n p. refl;
      taken = λ n p. omega arith;
      sent = λ n p. omega arith;
    }

module _ (b : Behind) (m : Moment) (st : Stepped b m) where
  -- a frame is laid under the next number alone
  pub lays_next : (n p : ℕ) → (bit (lays n p m) ≡ 0) ⊎ ((bit (lays n p m) ≡ 1) × (n ≡ m.before.next) × (m.after.next ≡ m.before.next + 1))
  lays_next n p = at (arrived_in m.answer) refl
    where
      at : (o : Option Arrived) → arrived_in m.answer ≡ o → (bit (holds (λ a. eqb a.number n && in_set a.set p) o) ≡ 0) ⊎ ((bit (holds (λ a. eqb a.number n && in_set a.set p) o) ≡ 1) × (n ≡ m.before.next) × (m.after.next ≡ m.before.next + 1))
      at None e = inl refl
      at (Some a) e = by (eqb a.number n) (in_set a.set p) refl
        where
          by : (x y : Bool) → eqb a.number n ≡ x → (bit (x && y) ≡ 0) ⊎ ((bit (x && y) ≡ 1) × (n ≡ m.before.next) × (m.after.next ≡ m.before.next + 1))
          by false y q = inl refl
          by true false q = inl refl
          by true true q = inr (refl, sym (eqb-true a.number n q) ∙ st.number_is a e, omega (arith, st.next_is, ap (λ o. bit (is_some o)) e))

  pub unknown_now : (s n : ℕ) → m.after.next ≤ n → arrival_now s n m ≡ None
  unknown_now s n h = at (arrived_in m.answer) refl
    where
      at : (o : Option Arrived) → arrived_in m.answer ≡ o → arrival_or None s n (bytes_in m.call) o ≡ None
      at None e = refl
      at (Some a) e =
          ap (λ t. cond t (Some (record { slot = s; class = a.class; bytes = bytes_in m.call })) None)
          (ne_eqb a.number n (λ q. omega (arith, st.number_is a e, st.next_is, ap (λ o. bit (is_some o)) e)))

module _ (slot number : ℕ) (b : Behind) (h : List Moment) (m : Moment) (past : Past slot number h m.before) (st : Stepped b m) where
  next_grows : m.before.next ≤ m.after.next
  next_grows = omega (arith, st.next_is)

  pub few : (n p : ℕ) → queued n p m.before + out_there n p m.before ≤ 1
  few n p = omega (arith, past.account n p, past.once n p)

  account_next : (n p : ℕ) → count (lays n p) h + bit (lays n p m) ≡ (count (sends n p) h + bit (sends n p m)) + (count (ends_late n p) h + bit (ends_late n p m)) + (count (ends_overdrawn n p) h + bit (ends_overdrawn n p m)) + (count (ends_cleared n p) h + bit (ends_cleared n p m)) + queued n p m.after + out_there n p m.after
  account_next n p =
      let w : Copy → ℕ = λ c. bit (numbered n c) in
      let d = st.befell p in
      omega (arith, past.account n p, queued_flow d.move w, out_flow d.move w, d.kinds w, d.laying.is n, d.sending.is n, d.lateness.is n (few n p), d.overdraft.is n (few n p), d.clearing.is n (few n p))

  unlaid_next : (n p : ℕ) → m.after.next ≤ n → count (lays n p) h + bit (lays n p m) ≡ 0
  unlaid_next n p l =
      ⊎_elim
      (λ z. omega (arith, past.unlaid n p (omega (arith, next_grows))))
      (λ z. absurd (omega (arith, z.1, z.2)))
      (lays_next b m st n p)

  once_next : (n p : ℕ) → count (lays n p) h + bit (lays n p m) ≤ 1
  once_next n p =
      ⊎_elim (λ z. omega (arith, past.once n p)) (λ z. omega (arith, z.0, past.unlaid n p (omega (arith, z.1)))) (lays_next b m st n p)

  -- and so after one moment more
  pub past_push : Past slot number (h ++ m ∷ []) m.after
  past_push =
      record {
        slot_is = st.slot_is ∙ ap (λ x. slot_told x (ticked_in m.answer)) past.slot_is ∙ sym (slot_push slot h m);
        ticks = omega (arith, st.tick_is, past.ticks, sum_by_push (λ e. bit (is_tick e)) h m);
        small = st.small;
        next_is = omega (arith, st.next_is, past.next_is, sum_by_push (λ e. bit (is_arrived e)) h m);
        unknown = λ n l.
            arrival_push slot n h m
            ∙ ap (λ o. option_or o (arrival_now (slot_after slot h) n m)) (past.unknown n (omega (arith, next_grows)))
            ∙ unknown_now b m st (slot_after slot h) n l;
        unlaid = λ n p l. omega (arith, sum_by_push (λ e. bit (lays n p e)) h m, unlaid_next n p l);
        once = λ n p. omega (arith, sum_by_push (λ e. bit (lays n p e)) h m, once_next n p);
        account = λ n p.
            omega (arith, account_next n p, sum_by_push (λ e. bit (lays n p e)) h m, sum_by_push (λ e. bit (sends n p e)) h m, sum_by_push (λ e. bit (ends_late n p e)) h m, sum_by_push (λ e. bit (ends_overdrawn n p e)) h m, sum_by_push (λ e. bit (ends_cleared n p e)) h m);
        taken = λ n p.
            let w : Copy → ℕ = λ c. bit (numbered n c) in
            let d = st.befell p in
            omega (arith, past.taken n p, queued_flow d.move w, d.laying.is n, d.taking.is n, sum_by_push (λ e. bit (lays n p e)) h m, sum_by_push (λ e. bit (takes n p e)) h m);
        sent = λ n p.
            let w : Copy → ℕ = λ c. bit (numbered n c) in
            let d = st.befell p in
            omega (arith, past.sent n p, out_flow d.move w, d.sending.among w, d.sending.is n, d.taking.is n, sum_by_push (λ e. bit (sends n p e)) h m, sum_by_push (λ e. bit (takes n p e)) h m);
      }
