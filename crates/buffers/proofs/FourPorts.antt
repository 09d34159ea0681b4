-- The line of one port among the four, read and changed. Assumes nothing.
use Rattle.std.proofs.Common.{◌≡◌, ℕ, zero, suc, ◌<◌, cond, ltb, List, [], ◌∷◌, map, length, get_or, set, sym, refl, ap, ◌∙◌, ⊎_elim, arith}
use Rattle.std.proofs.lemmas.List.{get_or-map, get_or_past, length-map}
use Rattle.std.proofs.lemmas.Bool.{cases_lt, cond-false, cond-true, le-ltb, lt-ltb}
use Rattle.rules.specs.Copies.{put}
use Rattle.buffers.proofs.Places.{map_put}
use Rattle.buffers.specs.Lines.{Line, empty_line, line}
use Rattle.buffers.specs.declared.ports.PortRecord.{PortRecord}

module _ (rs : List PortRecord) (x : PortRecord) (n p : ℕ) (same : n ≡ p) (within : n < length rs) where
  abbrev at : ℕ → Line
  at q = get_or (map line rs) q (empty_line 0)

  line_read : line (get_or rs n x) ≡ at p
  line_read = sym (get_or-map line rs n x (empty_line 0) within) ∙ ap at same

  pub line_changed : (F : Line → Line) (after : PortRecord) → line after ≡ F (line (get_or rs n x)) → ◌≡◌ {A = ℕ → Line} (λ q. get_or (map line (set rs n after)) q (empty_line 0)) (put at p (F (at p)))
  line_changed F after is =
      map_put line (empty_line 0) rs n within after
      ∙ (λ i. put at (same i) ((is ∙ ap F line_read) i))

-- four lines with these tokens, and nothing at any other port
pub four_lines : (rs : List PortRecord) (x : PortRecord) (t : ℕ) → length rs ≡ 4 → ((n : ℕ) → n < 4 → line (get_or rs n x) ≡ empty_line t) → (p : ℕ) → get_or (map line rs) p (empty_line 0) ≡ empty_line (cond (ltb p 4) t 0)
four_lines rs x t four each p =
    ⊎_elim
    (λ low. get_or-map line rs p x (empty_line 0) (omega arith) ∙ each p low ∙ ap empty_line (sym (cond-true (ltb p 4) t 0 (lt-ltb p 4 low))))
    (λ past. get_or_past (map line rs) p (empty_line 0) (omega (arith, length-map rs line)) ∙ ap empty_line (sym (cond-false (ltb p 4) t 0 (le-ltb p 4 past))))
    (cases_lt p 4)

-- no port has a fifth queue
pub no_fifth : (rs : List PortRecord) (p k : ℕ) → (get_or (map line rs) p (empty_line 0)).queue (suc (suc (suc (suc k)))) ≡ []
no_fifth [] p k = refl
no_fifth (r ∷ rs) zero k = refl
no_fifth (r ∷ rs) (suc p) k = no_fifth rs p k
