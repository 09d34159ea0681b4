-- The answered counts: each call's own, and their sums over a run. Assumes nothing.
use Rattle.std.proofs.Common.{◌≡◌, ℕ, zero, suc, ◌+◌, ◌<◌, ◌≤◌, Bool, true, false, ◌&&◌, eqb, ltb, List, [], ◌∷◌, ◌++◌, length, is_some, Some, None, Option, sym, refl, ◌∙◌, ⊎_elim, arith, length-append}
use Rattle.std.proofs.lemmas.List.Sums.{sum_by_push}
use Rattle.std.specs.Option.{option_to_list}
use Rattle.std.proofs.lemmas.Bool.{cases_lt}
use Rattle.rules.specs.Copies.{Copy, Egress, queued_at}
use Rattle.rules.specs.Switch.{Behind, State, new_state, standing}
use Rattle.rules.specs.Runs.{Moment, ticked_in, took_in, cleared_in, total, bit, count, sum4, sum_below, numbered, queued, out_there, ends_late, ends_overdrawn, ends_cleared}
use Rattle.rules.specs.Laws.{laid_told, late_told, overdrawn_told, cleared_told, is_returned, copies_that}
use Rattle.rules.proofs.Totals.{total_one, all_counted, sum_below_same, sum_below_count}
use Rattle.rules.proofs.Moves.{queued_flow, out_flow}
use Rattle.rules.proofs.Steps.{Stepped}
use Rattle.rules.proofs.Pasts.{Past, few}

-- a list in which each number below the bound is counted as often as a test holds of it
counts_all : (test : ℕ → Bool) (cs : List Copy) (bound : ℕ) → ((n : ℕ) → bit (test n) ≡ count (numbered n) cs) → ((n : ℕ) → 0 < bit (test n) → n < bound) → length cs ≡ sum_below (λ n. bit (test n)) bound
counts_all test cs bound same small =
    sym (sum_below_count bound cs (all_counted (λ c. c.number < bound) cs (λ c l. small c.number (omega (arith, same c.number)))))
    ∙ sum_below_same (λ n. count (numbered n) cs) (λ n. bit (test n)) bound (λ n. sym (same n))

ends_before : (t : Bool) (x : ℕ) (y : Bool) → 0 < bit (t && (ltb 0 x && y)) → 0 < x
ends_before false x y h = absurd (omega arith)
ends_before true zero y h = absurd (omega arith)
ends_before true (suc x) y h = omega arith

module _ (first number : ℕ) (b : Behind) (h : List Moment) (m : Moment) (past : Past first number h m.before) (st : Stepped b m) (bound : ℕ) (above : m.before.next ≤ bound) where
  used : (n p : ℕ) → 0 < queued n p m.before + out_there n p m.before → n < bound
  used n p l = ⊎_elim (λ x. omega arith) (λ x. absurd (omega (arith, past.unlaid n p x, past.account n p))) (cases_lt n m.before.next)

  late_at : (p : ℕ) → (st.sizes p).late ≡ sum_below (λ n. bit (ends_late n p m)) bound
  late_at p =
      sym (st.befell p).lateness.many
      ∙ counts_all (λ n. ends_late n p m) (st.befell p).late bound (λ n. (st.befell p).lateness.is n (few first number b h m past st n p)) (λ n l. used n p (omega (arith, ends_before (is_some (ticked_in m.answer)) (queued n p m.before) (eqb (queued n p m.after + out_there n p m.after) 0) l)))

  over_at : (p : ℕ) → (st.sizes p).over ≡ sum_below (λ n. bit (ends_overdrawn n p m)) bound
  over_at p =
      sym (st.befell p).overdraft.many
      ∙ counts_all (λ n. ends_overdrawn n p m) (st.befell p).over bound (λ n. (st.befell p).overdraft.is n (few first number b h m past st n p)) (λ n l. used n p (omega (arith, ends_before (is_some (took_in m.answer)) (queued n p m.before) (eqb (queued n p m.after + out_there n p m.after) 0) l)))

  cleared_at : (p : ℕ) → (st.sizes p).cleared ≡ sum_below (λ n. bit (ends_cleared n p m)) bound
  cleared_at p =
      sym (st.befell p).clearing.many
      ∙ counts_all (λ n. ends_cleared n p m) (st.befell p).cleared bound (λ n. (st.befell p).clearing.is n (few first number b h m past st n p)) (λ n l. used n p (ends_before (is_some (cleared_in m.answer)) (queued n p m.before + out_there n p m.before) (eqb (queued n p m.after + out_there n p m.after) 0) l))

  -- the count of each call is the number of copies that it ended
  pub late_ended : late_told m ≡ copies_that (λ n p. ends_late n p m) bound
  late_ended = omega (arith, st.late_told, late_at 0, late_at 1, late_at 2, late_at 3)

  pub over_ended : overdrawn_told m ≡ copies_that (λ n p. ends_overdrawn n p m) bound
  over_ended = omega (arith, st.over_told, over_at 0, over_at 1, over_at 2, over_at 3)

  pub cleared_ended : cleared_told m ≡ copies_that (λ n p. ends_cleared n p m) bound
  cleared_ended = omega (arith, st.cleared_told, cleared_at 0, cleared_at 1, cleared_at 2, cleared_at 3)

-- all copies of a port, counted
queued_length : (e : Egress) → length (queued_at e) ≡ sum4 (λ k. length (e.queue k))
queued_length e = omega (arith, length-append (e.queue 0) (e.queue 1 ++ (e.queue 2 ++ e.queue 3)), length-append (e.queue 1) (e.queue 2 ++ e.queue 3), length-append (e.queue 2) (e.queue 3))

out_length : (o : Option Copy) → length (option_to_list o) ≡ bit (is_some o)
out_length None = refl
out_length (Some c) = refl

abbrev held_at : State → ℕ → ℕ
held_at s p = sum4 (λ k. standing s p k) + bit (is_some (s.port p).out)

pub record Sums (h : List Moment) (s : State) : Type 0 where
  pub sums : total laid_told h ≡ count is_returned h + total late_told h + total overdrawn_told h + total cleared_told h + sum4 (λ p. sum4 (λ k. standing s p k)) + sum4 (λ p. bit (is_some (s.port p).out))

pub sums_new : (slot number rate depth : ℕ) → Sums [] (new_state slot number rate depth)
sums_new slot number rate depth = record { sums = refl }

-- sums over four ports, and one moment more, as plain arithmetic
four_sums : (x y l s t o c : ℕ → ℕ) → ((p : ℕ) → x p + l p ≡ s p + t p + o p + c p + y p) → {l' s' t' o' c' : ℕ} → l' ≡ sum4 l → s' ≡ sum4 s → t' ≡ sum4 t → o' ≡ sum4 o → c' ≡ sum4 c → sum4 x + l' ≡ s' + t' + o' + c' + sum4 y
four_sums x y l s t o c h a b d e f = omega (arith, h 0, h 1, h 2, h 3)

sums_on : (s t o c q u q' u' dl ds dt dv dc : ℕ) {l l' s' t' o' c' x y : ℕ} → l ≡ s + t + o + c + q + u → l' ≡ l + dl → s' ≡ s + ds → t' ≡ t + dt → o' ≡ o + dv → c' ≡ c + dc → x + dl ≡ ds + dt + dv + dc + y → x ≡ q + u → y ≡ q' + u' → l' ≡ s' + t' + o' + c' + q' + u'
sums_on s t o c q u q' u' dl ds dt dv dc a b d e f g i j k = omega arith

sum4_add : (f g : ℕ → ℕ) → sum4 (λ p. f p + g p) ≡ sum4 f + sum4 g
sum4_add f g = omega arith

held_sum : (s : State) → sum4 (held_at s) ≡ sum4 (λ p. sum4 (λ k. standing s p k)) + sum4 (λ p. bit (is_some (s.port p).out))
held_sum s = sum4_add (λ p. sum4 (λ k. standing s p k)) (λ p. bit (is_some (s.port p).out))

module _ (b : Behind) (h : List Moment) (m : Moment) (st : Stepped b m) where
  port_sum : (p : ℕ) → held_at m.before p + (st.sizes p).laid ≡ (st.sizes p).sent + (st.sizes p).late + (st.sizes p).over + (st.sizes p).cleared + held_at m.after p
  port_sum p =
      let w : Copy → ℕ = λ c. 1 in
      let d = st.befell p in
      let e = m.before.port p in
      let e' = m.after.port p in
      omega (arith, queued_flow d.move w, out_flow d.move w, d.kinds w, total_one (queued_at e), total_one (queued_at e'), total_one (option_to_list e.out), total_one (option_to_list e'.out), queued_length e, queued_length e', out_length e.out, out_length e'.out, total_one (d.laid 0), total_one (d.laid 1), total_one (d.laid 2), total_one (d.laid 3), d.laying.many, total_one d.sent, d.sending.many, total_one d.late, d.lateness.many, total_one d.over, d.overdraft.many, total_one d.cleared, d.clearing.many)

  moment_sum : sum4 (held_at m.before) + laid_told m ≡ bit (is_returned m) + late_told m + overdrawn_told m + cleared_told m + sum4 (held_at m.after)
  moment_sum = four_sums (held_at m.before) (held_at m.after) (λ p. (st.sizes p).laid) (λ p. (st.sizes p).sent) (λ p. (st.sizes p).late) (λ p. (st.sizes p).over) (λ p. (st.sizes p).cleared) port_sum st.laid_told st.sent_told st.late_told st.over_told st.cleared_told

  pub sums_push : Sums h m.before → Sums (h ++ m ∷ []) m.after
  sums_push r =
      record {
        sums =
            sums_on (count is_returned h) (total late_told h) (total overdrawn_told h) (total cleared_told h) (sum4 (λ p. sum4 (λ k. standing m.before p k))) (sum4 (λ p. bit (is_some (m.before.port p).out))) (sum4 (λ p. sum4 (λ k. standing m.after p k))) (sum4 (λ p. bit (is_some (m.after.port p).out))) (laid_told m) (bit (is_returned m)) (late_told m) (overdrawn_told m) (cleared_told m)
            r.sums (sum_by_push laid_told h m) (sum_by_push (λ x. bit (is_returned x)) h m) (sum_by_push late_told h m) (sum_by_push overdrawn_told h m) (sum_by_push cleared_told h m) moment_sum (held_sum m.before) (held_sum m.after);
      }
