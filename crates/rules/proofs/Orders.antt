-- Time-sensitive copies leave a port in the order of their frame numbers. Assumes nothing.
use Rattle.std.proofs.Common.{◌≡◌, ℕ, ◌+◌, ◌-◌, ◌<◌, Bool, true, false, cond, ◌&&◌, eqb, ◌⊎◌, List, [], ◌∷◌, ◌++◌, is_some, Some, None, Option, sym, refl, ap, ◌∙◌, subst, inl, inr, ⊎_elim, append_assoc, append-nil, arith}
use Rattle.std.proofs.lemmas.List.Sums.{sum_by-cons, sum_by_push}
use Rattle.std.specs.Option.{option_to_list}
use Rattle.std.specs.List.{AllByRecursion as All}
use Rattle.std.proofs.ByRecursion.{All-append, All-weaker}
use Rattle.std.proofs.lemmas.Bool.{cases_lt}
use Rattle.frame.specs.Numbers.{in_set}
use Rattle.rules.specs.Copies.{Copy}
use Rattle.rules.specs.Switch.{Behind, State, Arrived, new_state}
use Rattle.rules.specs.Runs.{Moment, arrived_in, ticked_in, took_in, cleared_in, bit, count, holds, numbered, lays, takes, sends, slot_told, Arrival, bytes_in, arrival_or, arrival}
use Rattle.rules.proofs.Totals.{all_parts, all_both, counted, zero_or}
use Rattle.rules.proofs.Calls.{Befell, New}
use Rattle.rules.proofs.Steps.{Stepped}
use Rattle.rules.proofs.Pasts.{Past, arrival_kept}
use Rattle.rules.proofs.Waits.{Came, same_arrival, InSlot, InLast, Other, Waits, Takeable, taken_on, paid_on, best_on}

-- rising frame numbers
abbrev pub Above : ℕ → List Copy → Type 0
Above n cs = All (λ c. n < c.number) cs

abbrev pub Rising : List Copy → Type 0
Rising [] = Unit {0}
Rising (c ∷ cs) = Above c.number cs × Rising cs

rising_parts : (xs ys : List Copy) → Rising (xs ++ ys) → Rising xs × Rising ys × All (λ c. Above c.number ys) xs
rising_parts [] ys r = (tt, r, tt)
rising_parts (x ∷ xs) ys r =
    let q = rising_parts xs ys r.1 in
    let a = all_parts (λ c. x.number < c.number) xs ys r.0 in
    ((a.0, q.0), q.1, (a.1, q.2))

rising_join : (xs ys : List Copy) → Rising xs → Rising ys → All (λ c. Above c.number ys) xs → Rising (xs ++ ys)
rising_join [] ys a b c = b
rising_join (x ∷ xs) ys a b c = (All-append (λ c. x.number < c.number) xs ys a.0 c.0, rising_join xs ys a.1 b c.1)

-- a new frame has a higher number than all before it
rising_laid : (n : ℕ) (xs ls : List Copy) → Rising xs → All (λ c. c.number < n) xs → All (λ c. c.number ≡ n) ls → (ls ≡ []) ⊎ ((c : Copy) × (ls ≡ c ∷ [])) → Rising (xs ++ ls)
rising_laid n xs ls r a b (inl e) = subst (λ (l : List Copy). Rising (xs ++ l)) (sym e) (subst Rising (sym (append-nil xs)) r)
rising_laid n xs ls r a b (inr (c, e)) =
    let q : c.number ≡ n = (subst (All (λ c. c.number ≡ n)) e b).0 in
    subst (λ (l : List Copy). Rising (xs ++ l)) (sym e)
    (rising_join xs (c ∷ []) r (tt, tt) (All-weaker (λ c. c.number < n) (λ x. Above x.number (c ∷ [])) (λ x l. (omega arith, tt)) xs a))

-- what is left of two queues: k' of the first, whose part t was taken, and f' of the second
module _ (e t k' d u f' : List Copy) where
  all_rest : (P : Copy → Type 0) → All P ((e ++ (t ++ k')) ++ (d ++ (u ++ f'))) → All P t × All P (k' ++ f')
  all_rest P a =
      let x = all_parts P (e ++ (t ++ k')) (d ++ (u ++ f')) a in
      let y = all_parts P t k' (all_parts P e (t ++ k') x.0).1 in
      let z = all_parts P u f' (all_parts P d (u ++ f') x.1).1 in
      (y.0, All-append P k' f' y.1 z.1)

  rising_rest : Rising ((e ++ (t ++ k')) ++ (d ++ (u ++ f'))) → Rising (k' ++ f') × All (λ c. Above c.number (k' ++ f')) t
  rising_rest r =
      let x = rising_parts (e ++ (t ++ k')) (d ++ (u ++ f')) r in
      let y = rising_parts t k' (rising_parts e (t ++ k') x.0).1 in
      let z = rising_parts u f' (rising_parts d (u ++ f') x.1).1 in
      let across : All (λ c. Above c.number f') (e ++ (t ++ k')) = All-weaker (λ c. Above c.number (d ++ (u ++ f'))) (λ c. Above c.number f') (λ c a. (all_parts (λ y. c.number < y.number) u f' (all_parts (λ y. c.number < y.number) d (u ++ f') a).1).1) (e ++ (t ++ k')) x.2 in
      let w = all_parts (λ c. Above c.number f') t k' (all_parts (λ c. Above c.number f') e (t ++ k') across).1 in
      (rising_join k' f' y.1 z.1 w.1, joined t y.2 w.0)
    where
      joined : (cs : List Copy) → All (λ c. Above c.number k') cs → All (λ c. Above c.number f') cs → All (λ c. Above c.number (k' ++ f')) cs
      joined [] a b = tt
      joined (c ∷ cs) a b = (All-append (λ y. c.number < y.number) k' f' a.0 b.0, joined cs a.1 b.1)

-- a frame that was laid somewhere has arrived
pub known : (first n p : ℕ) (h : List Moment) → 0 < count (lays n p) h → (a : Arrival) × (arrival first n h ≡ Some a)
known first n p [] l = absurd (omega arith)
known first n p (m ∷ h) l = at (known (slot_told first (ticked_in m.answer)) n p h) (arrived_in m.answer) (omega (arith, sum_by-cons (λ x. bit (lays n p x)) m h))
  where
    at : (0 < count (lays n p) h → (a : Arrival) × (arrival (slot_told first (ticked_in m.answer)) n h ≡ Some a)) → (o : Option Arrived) → 0 < bit (holds (λ a. eqb a.number n && in_set a.set p) o) + count (lays n p) h → (a : Arrival) × (arrival_or (arrival (slot_told first (ticked_in m.answer)) n h) first n (bytes_in m.call) o ≡ Some a)
    at f None l = f (omega arith)
    at f (Some a) l = by (eqb a.number n) (in_set a.set p) l
      where
        by : (x y : Bool) → 0 < bit (x && y) + count (lays n p) h → (b : Arrival) × (cond x (Some (record { slot = first; class = a.class; bytes = bytes_in m.call })) (arrival (slot_told first (ticked_in m.answer)) n h) ≡ Some b)
        by true y l = (record { slot = first; class = a.class; bytes = bytes_in m.call }, refl)
        by false y l = f (omega arith)

-- what holds of the time-sensitive copies of a list holds of that of a frame whose Arrive answered class 3
pub sensitive : (first : ℕ) (h : List Moment) (R : ℕ → ℕ → Type 0) (Q : Copy → Type 0) (cs : List Copy) → All (Came first h R) cs → All (λ c. c.class ≡ 3 → Q c) cs → (n : ℕ) (a : Arrival) → arrival first n h ≡ Some a → a.class ≡ 3 → 0 < count (numbered n) cs → (c : Copy) × (c.number ≡ n) × Q c
sensitive first h R Q cs came all n a e c l = at (counted (λ x. Came first h R x × (x.class ≡ 3 → Q x)) n cs (all_both (Came first h R) (λ x. x.class ≡ 3 → Q x) cs came all) l)
  where
    at : (x : Copy) × (x.number ≡ n) × (Came first h R x × (x.class ≡ 3 → Q x)) → (x : Copy) × (x.number ≡ n) × Q x
    at (x, q, (r, g)) =
        let same : record { slot = r.at; class = x.class; bytes = x.bytes } ≡ a = same_arrival (sym r.told ∙ ap (λ j. arrival first j h) q ∙ e) in
        (x, q, g (ap (λ y. y.class) same ∙ c))

-- at each port: the time-sensitive copies queued have rising numbers, those sent in this slot before those that fill; all that were taken before have lower ones, and all that were sent before have lower ones than the copy out
pub record Order (first f k : ℕ) (h : List Moment) (s : State) : Type 0 where
  pub rising : (p : ℕ) → Rising ((s.port p).queue k ++ (s.port p).queue f)
  pub passed : (n p : ℕ) (a : Arrival) → arrival first n h ≡ Some a → a.class ≡ 3 → 0 < count (takes n p) h → Above n ((s.port p).queue k ++ (s.port p).queue f)
  pub behind : (n p : ℕ) (a : Arrival) → arrival first n h ≡ Some a → a.class ≡ 3 → 0 < count (sends n p) h → All (λ c. c.class ≡ 3 → n < c.number) (option_to_list (s.port p).out)

pub order_new : (slot number rate depth f k : ℕ) → Order slot f k [] (new_state slot number rate depth)
order_new slot number rate depth f k = record { rising = λ p. tt; passed = λ n p a e c l. absurd (omega arith); behind = λ n p a e c l. absurd (omega arith) }

module _ (first number : ℕ) (b : Behind) (h : List Moment) (m : Moment) (past : Past first number h m.before) (st : Stepped b m) where
  abbrev h' : List Moment
  h' = h ++ m ∷ []

  abbrev f : ℕ
  f = b.fill m.before.slot

  abbrev k : ℕ
  k = 1 - f

  below_next : (R : ℕ → ℕ → Type 0) (cs : List Copy) → All (Came first h R) cs → All (λ c. c.number < m.before.next) cs
  below_next R =
      All-weaker (Came first h R) (λ c. c.number < m.before.next)
      (λ c r. ⊎_elim (λ l. l) (λ l. let q = past.unknown c.number l in let t = r.told in cc) (cases_lt c.number m.before.next))

  taken_known : (n p : ℕ) (a : Arrival) → arrival first n h' ≡ Some a → 0 < count (takes n p) h → (arrival first n h ≡ Some a) × (n < m.before.next)
  taken_known n p a e l =
      let q = known first n p h (omega (arith, past.taken n p)) in
      let r : Some q.0 ≡ Some a = sym (arrival_kept first n h m q.0 q.1) ∙ e in
      (q.1 ∙ r, ⊎_elim (λ x. x) (λ x. absurd (omega (arith, past.unlaid n p x, past.taken n p))) (cases_lt n m.before.next))

  module _ (small : f < 2) (waits : Waits first f k m.before.slot h m.before) (order : Order first f k h m.before) (p : ℕ) where
    abbrev d : Befell (st.sizes p) f (arrived_in m.answer) (bytes_in m.call) (λ n. lays n p m) (λ n. takes n p m) (λ n. sends n p m) (is_some (ticked_in m.answer)) (is_some (took_in m.answer)) (is_some (cleared_in m.answer)) (m.before.port p) (m.after.port p)
    d = st.befell p

    abbrev K : List Copy
    K = (m.before.port p).queue k

    abbrev F : List Copy
    F = (m.before.port p).queue f

    abbrev rest : List Copy
    rest = (m.after.port p).queue k ++ (m.after.port p).queue f

    laid_next : All (λ c. c.number ≡ m.before.next) (d.laid f)
    laid_next = All-weaker (New f f (arrived_in m.answer) (bytes_in m.call)) (λ c. c.number ≡ m.before.next) (λ c n. sym n.number ∙ st.number_is n.told n.answered) (d.laid f) (d.laying.new f)

    -- both queues with what is laid, as what becomes of them
    becomes : (K ++ F) ++ d.laid f ≡ (d.ended k ++ (d.taken k ++ (m.after.port p).queue k)) ++ (d.ended f ++ (d.taken f ++ (m.after.port p).queue f))
    becomes =
        append_assoc K F (d.laid f)
        ∙ (λ i. (sym (append-nil K) ∙ ap (λ x. K ++ x) (sym d.laying.sending) ∙ d.move.queues k) i ++ d.move.queues f i)

    rest_rising : Rising rest × All (λ c. Above c.number rest) (d.taken k)
    rest_rising =
        rising_rest (d.ended k) (d.taken k) ((m.after.port p).queue k) (d.ended f) (d.taken f) ((m.after.port p).queue f)
        (subst Rising becomes
        (rising_laid m.before.next (K ++ F) (d.laid f) (order.rising p)
        (All-append (λ c. c.number < m.before.next) K F (below_next (InLast m.before.slot) K (waits.sending p)) (below_next (InSlot m.before.slot) F (waits.filling p)))
        laid_next d.laying.filling))

    -- what lies below both queues, and below the new frame
    rest_above : (n : ℕ) → n < m.before.next → Above n (K ++ F) → Above n (d.taken k) × Above n rest
    rest_above n l a =
        all_rest (d.ended k) (d.taken k) ((m.after.port p).queue k) (d.ended f) (d.taken f) ((m.after.port p).queue f) (λ c. n < c.number)
        (subst (Above n) becomes
        (All-append (λ c. n < c.number) (K ++ F) (d.laid f) a (All-weaker (λ c. c.number ≡ m.before.next) (λ c. n < c.number) (λ c e. omega arith) (d.laid f) laid_next)))

    -- a copy of class 3 that is taken is lower than all that is left
    taken_below : All (λ c. c.class ≡ 3 → Above c.number rest) d.put_out
    taken_below =
        d.taking.from (λ c. c.class ≡ 3 → Above c.number rest)
        (All-weaker (λ c. Above c.number rest) (λ c. c.class ≡ 3 → Above c.number rest) (λ c r e. r) (d.taken k) rest_rising.1)
        (All-weaker (Came first h' Other) (λ c. c.class ≡ 3 → Above c.number rest) (λ c r e. absurd (r.fits e)) (d.taken 2) (paid_on first number b h m past st small waits p).1)
        (All-weaker (Came first h' Other) (λ c. c.class ≡ 3 → Above c.number rest) (λ c r e. absurd (r.fits e)) (d.taken 3) (best_on first number b h m past st small waits p).1)

    passed_now : (n : ℕ) (a : Arrival) → arrival first n h' ≡ Some a → a.class ≡ 3 → 0 < count (numbered n) d.put_out → Above n rest
    passed_now n a e c l =
        let r = sensitive first h' (Takeable first number b h m past st small waits) (λ x. Above x.number rest) d.put_out (taken_on first number b h m past st small waits p) taken_below n a e c l in
        subst (λ (j : ℕ). Above j rest) r.1 r.2

    passed_on : (n : ℕ) (a : Arrival) → arrival first n h' ≡ Some a → a.class ≡ 3 → 0 < count (takes n p) h' → Above n rest
    passed_on n a e c l =
        ⊎_elim
        (λ z. passed_now n a e c (omega (arith, sum_by_push (λ x. bit (takes n p x)) h m, d.taking.is n)))
        (λ z. let q = taken_known n p a e z in (rest_above n q.1 (order.passed n p a q.0 c z)).1)
        (zero_or (count (takes n p) h))

    -- what is taken is higher than what was taken before
    pub taken_above : (n : ℕ) (a : Arrival) → arrival first n h ≡ Some a → a.class ≡ 3 → 0 < count (takes n p) h → All (λ c. c.class ≡ 3 → n < c.number) d.put_out
    taken_above n a e c l =
        let Q : Copy → Type 0 = λ c. c.class ≡ 3 → n < c.number in
        d.taking.from Q
        (All-weaker (λ c. n < c.number) Q (λ c l e. l) (d.taken k) (rest_above n (taken_known n p a (arrival_kept first n h m a e) l).1 (order.passed n p a e c l)).0)
        (All-weaker (Came first h' Other) Q (λ c r e. absurd (r.fits e)) (d.taken 2) (paid_on first number b h m past st small waits p).1)
        (All-weaker (Came first h' Other) Q (λ c r e. absurd (r.fits e)) (d.taken 3) (best_on first number b h m past st small waits p).1)

    behind_old : (n : ℕ) (a : Arrival) → arrival first n h' ≡ Some a → a.class ≡ 3 → 0 < count (sends n p) h → All (λ c. c.class ≡ 3 → n < c.number) (option_to_list (m.after.port p).out)
    behind_old n a e c l =
        let Q : Copy → Type 0 = λ c. c.class ≡ 3 → n < c.number in
        let t : 0 < count (takes n p) h = omega (arith, past.sent n p) in
        let q = (taken_known n p a e t).0 in
        (all_parts Q d.left (option_to_list (m.after.port p).out) (subst (All Q) d.move.outs (All-append Q (option_to_list (m.before.port p).out) d.put_out (order.behind n p a q c l) (taken_above n a q c t)))).1

    behind_on : (n : ℕ) (a : Arrival) → arrival first n h' ≡ Some a → a.class ≡ 3 → 0 < count (sends n p) h' → All (λ c. c.class ≡ 3 → n < c.number) (option_to_list (m.after.port p).out)
    behind_on n a e c l =
        ⊎_elim
        (λ z.
        subst (λ (o : Option Copy). All (λ c. c.class ≡ 3 → n < c.number) (option_to_list o)) (sym (d.sending.out n (omega (arith, sum_by_push (λ x. bit (sends n p x)) h m)))) tt)
        (λ z. behind_old n a e c z)
        (zero_or (count (sends n p) h))

  module _ (small : f < 2) (waits : Waits first f k m.before.slot h m.before) (order : Order first f k h m.before) where
    order_on : Order first f k h' m.after
    order_on =
        record {
          rising = λ p. (rest_rising small waits order p).0;
          passed = λ n p. passed_on small waits order p n;
          behind = λ n p. behind_on small waits order p n;
        }

    -- the next slot: the empty queue fills, and the other is sent
    order_turn : ((p : ℕ) → (m.after.port p).queue k ≡ []) → Order first k (1 - k) h' m.after
    order_turn empty =
        record {
          rising = λ p. subst Rising (both p) (order_on.rising p);
          passed = λ n p a e c l. subst (Above n) (both p) (order_on.passed n p a e c l);
          behind = order_on.behind;
        }
      where
        both : (p : ℕ) → (m.after.port p).queue k ++ (m.after.port p).queue f ≡ (m.after.port p).queue (1 - k) ++ (m.after.port p).queue k
        both p =
            let q : f ≡ 1 - k = omega arith in
            ap (λ x. x ++ (m.after.port p).queue f) (empty p)
            ∙ sym (append-nil ((m.after.port p).queue f))
            ∙ (λ i. (m.after.port p).queue (q i) ++ sym (empty p) i)

    pub order_push : Order first (b.fill m.after.slot) (1 - b.fill m.after.slot) h' m.after
    order_push =
        ⊎_elim
        (λ e. subst (λ (t : ℕ). Order first (b.fill t) (1 - b.fill t) h' m.after) (sym e) order_on)
        (λ e. subst (λ (j : ℕ). Order first j (1 - j) h' m.after) (sym e.1) (order_turn e.2))
        st.turned
