-- Sums over the entries at the ports, as an entry comes, goes or moves. Assumes nothing.
use Rattle.std.proofs.Common.{◌≡◌, ℕ, ◌+◌, ◌<◌, ◌≤◌, List, [], ◌∷◌, map, sum, sum_by, None, sym, refl, ap, ◌∙◌, arith}
use Rattle.std.proofs.lemmas.List.Sums.{sum-map, sum_by-cons, sum_by_push}
use Rattle.std.specs.Option.{option_to_list}
use Rattle.frame.proofs.Ports.{each_of_four}
use Rattle.rules.specs.Copies.{put}
use Rattle.buffers.specs.Entries.{in_cell, over_line, over_lines}
use Rattle.buffers.specs.Lines.{Line, outed, pushed, shifted, with_out}
use Rattle.cells.specs.Fifos.{first_of, rest_of}
use Rattle.buffers.specs.declared.ports.Waiting.{Waiting}

module _ (f : Waiting → ℕ) where
  sum_rest : (es : List Waiting) → sum_by f es ≡ sum_by f (option_to_list (first_of es)) + sum_by f (rest_of es)
  sum_rest [] = refl
  sum_rest (e ∷ es) = omega (arith, sum_by-cons f e es)

  pub line_in_lines : (ls : ℕ → Line) (p : ℕ) → p < 4 → over_line f (ls p) ≤ over_lines f ls
  line_in_lines ls = each_of_four (λ p. over_line f (ls p) ≤ over_lines f ls) (omega arith) (omega arith) (omega arith) (omega arith)

  pub queue_in_line : (l : Line) (k : ℕ) → k < 4 → sum_by f (l.queue k) ≤ over_line f l
  queue_in_line l = each_of_four (λ k. sum_by f (l.queue k) ≤ over_line f l) (omega arith) (omega arith) (omega arith) (omega arith)

  -- another line at one port
  pub over_put : (ls : ℕ → Line) (l : Line) (p : ℕ) → p < 4 → over_lines f (put ls p l) + over_line f (ls p) ≡ over_lines f ls + over_line f l
  over_put ls l =
      each_of_four (λ p. over_lines f (put ls p l) + over_line f (ls p) ≡ over_lines f ls + over_line f l) (omega arith) (omega arith) (omega arith) (omega arith)

  module _ (l : Line) where
    pub pushed_sum : (e : Waiting) (x k : ℕ) → k < 4 → over_line f (pushed l k e x) ≡ f e + over_line f l
    pushed_sum e x =
        each_of_four
        (λ k. over_line f (pushed l k e x) ≡ f e + over_line f l)
        (omega (arith, sum_by_push f (l.queue 0) e))
        (omega (arith, sum_by_push f (l.queue 1) e))
        (omega (arith, sum_by_push f (l.queue 2) e))
        (omega (arith, sum_by_push f (l.queue 3) e))

    pub shifted_sum : (k : ℕ) → k < 4 → over_line f l ≡ sum_by f (option_to_list (first_of (l.queue k))) + over_line f (shifted l k)
    shifted_sum =
        each_of_four
        (λ k. over_line f l ≡ sum_by f (option_to_list (first_of (l.queue k))) + over_line f (shifted l k))
        (omega (arith, sum_rest (l.queue 0)))
        (omega (arith, sum_rest (l.queue 1)))
        (omega (arith, sum_rest (l.queue 2)))
        (omega (arith, sum_rest (l.queue 3)))

    pub outed_sum : l.out ≡ None → (k : ℕ) → k < 4 → over_line f (outed l k) ≡ over_line f l
    outed_sum none k h = omega (arith, shifted_sum k h, ap (λ o. sum_by f (option_to_list o)) none)

    pub out_sum : over_line f l ≡ sum_by f (option_to_list l.out) + over_line f (with_out l None)
    out_sum = omega arith

-- an entry outside cell c is the same to f and g: then so are entries none of which is in c
module _ {B : Type 0} (f g : Waiting → B) (c : ℕ) (same : (e : Waiting) → in_cell c e ≡ 0 → f e ≡ g e) where
  pub map_same : (es : List Waiting) → sum_by (in_cell c) es ≡ 0 → map f es ≡ map g es
  map_same [] none = refl
  map_same (e ∷ es) none =
      let sum = sum_by-cons (in_cell c) e es in
      λ i. same e (omega arith) i ∷ map_same es (omega arith) i

module _ (f g : Waiting → ℕ) (c : ℕ) (same : (e : Waiting) → in_cell c e ≡ 0 → f e ≡ g e) where
  sum_same : (es : List Waiting) → sum_by (in_cell c) es ≡ 0 → sum_by f es ≡ sum_by g es
  sum_same es none = sym (sum-map f es) ∙ ap sum (map_same f g c same es none) ∙ sum-map g es

  line_same : (l : Line) → over_line (in_cell c) l ≡ 0 → over_line f l ≡ over_line g l
  line_same l none =
      omega (arith, sum_same (l.queue 0) (omega arith), sum_same (l.queue 1) (omega arith), sum_same (l.queue 2) (omega arith), sum_same (l.queue 3) (omega arith), sum_same (option_to_list l.out) (omega arith))

  pub lines_same : (ls : ℕ → Line) → over_lines (in_cell c) ls ≡ 0 → over_lines f ls ≡ over_lines g ls
  lines_same ls none =
      omega (arith, line_same (ls 0) (omega arith), line_same (ls 1) (omega arith), line_same (ls 2) (omega arith), line_same (ls 3) (omega arith))
