-- The counts of the cells, as a copy comes or goes. Assumes nothing.
use Rattle.std.proofs.Common.{◌≡◌, ℕ, ◌+◌, ◌-◌, ◌*◌, ◌<◌, Bool, false, eqb, List, length, get_or, set, sum_by, Some, None, Option, sym, refl, ap, ◌∙◌, ⊎_elim, arith, length-set}
use Rattle.std.proofs.lemmas.Bool.{cases_eq, cond-false, cond-true, eq-eqb, ne_eqb}
use Rattle.std.specs.Option.{option_map, option_to_list}
use Rattle.frame.specs.Numbers.{cell_number}
use Rattle.rules.specs.Copies.{put}
use Rattle.buffers.proofs.Places.{set_put}
use Rattle.buffers.proofs.Soundness.{in_other, in_own, put_other, put_same}
use Rattle.buffers.proofs.Views.{cond_ap}
use Rattle.buffers.specs.Endings.{ended, freed, id_of}
use Rattle.buffers.specs.Entries.{in_cell}
use Rattle.buffers.specs.declared.endings.Ended.{Ended}
use Rattle.buffers.specs.declared.endings.Ended.TheVariants.{Shared, Last}
use Rattle.buffers.specs.declared.ports.Waiting.{Waiting}

-- which cells are free, by the counts
abbrev pub unused : List ℕ → ℕ → Bool
unused counts c = eqb (get_or counts c 0) 0

-- the counts without that of a copy, if there is one
abbrev pub uncounted : List ℕ → Option Waiting → List ℕ
uncounted counts None = counts
uncounted counts (Some e) = set counts (cell_number e.cell) (get_or counts (cell_number e.cell) 0 - 1)

-- how that copy ends
abbrev pub ending : List ℕ → Option Waiting → Option Ended
ending counts = option_map (λ e. ended (get_or counts (cell_number e.cell) 0) (id_of e.cell))

put_what_is : {A : Type 0} (f : ℕ → A) (c : ℕ) (x : A) → x ≡ f c → put f c x ≡ f
put_what_is f c x is = λ i q. each q i
  where
    each : (q : ℕ) → put f c x q ≡ f q
    each q = ⊎_elim (λ same. put_same f c x q same ∙ is ∙ sym (ap f same)) (λ other. put_other f c x q other) (cases_eq q c)

module _ (counts : List ℕ) (wide : length counts ≡ 32) (e : Waiting) where
  abbrev c : ℕ
  c = cell_number e.cell

  abbrev count : ℕ
  count = get_or counts c 0

  -- the count of the cell set to n
  set_at : (n q : ℕ) → get_or (set counts c n) q 0 ≡ put (λ x. get_or counts x 0) c n q
  set_at n q = set_put counts 0 c n (omega (arith, wide, e.cell.within)) q

  -- where that changes the count by what the entry counts, so it does in every cell
  counted_at : (n g l : ℕ) → n + l ≡ count + g → (q : ℕ) → get_or (set counts c n) q 0 + l * in_cell q e ≡ get_or counts q 0 + g * in_cell q e
  counted_at n g l is q =
      ⊎_elim
      (λ same. omega (arith, is, set_at n q, put_same (λ x. get_or counts x 0) c n q same, ap (λ x. get_or counts x 0) same, ap (λ x. l * x) (in_own e q same), ap (λ x. g * x) (in_own e q same)))
      (λ other. omega (arith, set_at n q, put_other (λ x. get_or counts x 0) c n q other, ap (λ x. l * x) (in_other e q other), ap (λ x. g * x) (in_other e q other)))
      (cases_eq q c)

  free_at : (n : ℕ) → unused (set counts c n) ≡ put (unused counts) c (eqb n 0)
  free_at n = (λ i q. eqb (set_at n q i) 0) ∙ (λ i q. cond_ap (λ x. eqb x 0) (eqb q c) n (get_or counts q 0) i)

  pub more_counted : (q : ℕ) → get_or (set counts c (count + 1)) q 0 ≡ get_or counts q 0 + in_cell q e
  more_counted q = omega (arith, counted_at (count + 1) 1 0 (omega arith) q)

  pub free_more : unused (set counts c (count + 1)) ≡ put (unused counts) c false
  free_more = free_at (count + 1) ∙ ap (put (unused counts) c) (ne_eqb (count + 1) 0 (λ h. omega arith))

  -- only the last copy of a frame frees its cell
  free_less : 0 < count → unused (set counts c (count - 1)) ≡ freed (Some (ended count (id_of e.cell))) (unused counts)
  free_less some =
      free_at (count - 1)
      ∙ ⊎_elim
      (λ one. ap (put (unused counts) c) (eq-eqb (count - 1) 0 (omega arith)) ∙ sym (ap (λ r. freed (Some r) (unused counts)) (cond-true (eqb count 1) (Last (id_of e.cell)) Shared (eq-eqb count 1 one))))
      (λ more. put_what_is (unused counts) c (eqb (count - 1) 0) (ne_eqb (count - 1) 0 (λ h. omega (arith, h, more)) ∙ sym (ne_eqb count 0 (λ h. omega arith))) ∙ sym (ap (λ r. freed (Some r) (unused counts)) (cond-false (eqb count 1) (Last (id_of e.cell)) Shared (ne_eqb count 1 more))))
      (cases_eq count 1)

  less_counted : 0 < count → (q : ℕ) → get_or (set counts c (count - 1)) q 0 + in_cell q e ≡ get_or counts q 0
  less_counted some q = omega (arith, counted_at (count - 1) 0 1 (omega arith) q)

-- a copy that is counted goes, or there is none
module _ (counts : List ℕ) (wide : length counts ≡ 32) where
  pub uncounted_wide : (o : Option Waiting) → length (uncounted counts o) ≡ 32
  uncounted_wide None = wide
  uncounted_wide (Some e) = length-set counts _ _ ∙ wide

  pub uncounted_less : (o : Option Waiting) → ((e : Waiting) → Some e ≡ o → 0 < get_or counts (cell_number e.cell) 0) → (q : ℕ) → get_or (uncounted counts o) q 0 + sum_by (in_cell q) (option_to_list o) ≡ get_or counts q 0
  uncounted_less None some q = omega arith
  uncounted_less (Some e) some q = omega (arith, less_counted counts wide e (some e refl) q)

  pub uncounted_free : (o : Option Waiting) → ((e : Waiting) → Some e ≡ o → 0 < get_or counts (cell_number e.cell) 0) → unused (uncounted counts o) ≡ freed (ending counts o) (unused counts)
  uncounted_free None some = refl
  uncounted_free (Some e) some = free_less counts wide e (some e refl)
