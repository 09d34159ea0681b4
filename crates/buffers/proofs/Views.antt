-- What a change of one port's line is to the definition's ports. Assumes nothing.
use Rattle.std.proofs.Common.{◌≡◌, ℕ, ◌<◌, Bool, true, false, cond, eqb, ltb, List, [], ◌∷◌, ◌++◌, map, sym, refl, ap, ◌∙◌, ⊎_elim}
use Rattle.std.proofs.lemmas.List.{map_push}
use Rattle.std.proofs.lemmas.Bool.{cases_eq, cond-true, lt-ltb}
use Rattle.std.specs.Option.{option_map}
use Rattle.rules.specs.Copies.{Copy, Egress, laid, put, with_out, with_queue}
use Rattle.rules.specs.Switch.{empty_port}
use Rattle.buffers.proofs.Soundness.{put_other, put_same}
use Rattle.buffers.specs.Boards.{lines}
use Rattle.buffers.specs.Entries.{copy_of, egress_of, shown}
use Rattle.buffers.specs.Holdings.{changed, egress, frame_at}
use Rattle.buffers.specs.Lines.{Line, empty_line, outed, pushed, shifted}
use Rattle.cells.specs.Fifos.{first_of, rest_of}
use Rattle.buffers.specs.declared.boards.Board.{Board}
use Rattle.buffers.specs.declared.buffers.Buffers.{Buffers}
use Rattle.buffers.specs.declared.ports.Waiting.{Waiting}

pub cond_ap : {A B : Type 0} (g : A → B) (b : Bool) (x y : A) → g (cond b x y) ≡ cond b (g x) (g y)
cond_ap g true x y = refl
cond_ap g false x y = refl

pub map_rest : {A B : Type 0} (g : A → B) (xs : List A) → map g (rest_of xs) ≡ rest_of (map g xs)
map_rest g [] = refl
map_rest g (x ∷ xs) = refl

map_first : {A B : Type 0} (g : A → B) (xs : List A) → option_map g (first_of xs) ≡ first_of (map g xs)
map_first g [] = refl
map_first g (x ∷ xs) = refl

module _ (frames : ℕ → Copy) where
  -- the queues with one of them changed
  queue_put : (q : ℕ → List Waiting) (k : ℕ) (es : List Waiting) (cs : List Copy) → map (copy_of frames) es ≡ cs → ◌≡◌ {A = ℕ → List Copy} (λ j. map (copy_of frames) (put q k es j)) (put (λ j. map (copy_of frames) (q j)) k cs)
  queue_put q k es cs is = (λ i j. cond_ap (map (copy_of frames)) (eqb j k) es (q j) i) ∙ (λ i. put (λ j. map (copy_of frames) (q j)) k (is i))

  pub shown_pushed : (l : Line) (k : ℕ) (e : Waiting) (x : ℕ) → shown frames (pushed l k e x) ≡ laid (shown frames l) k (copy_of frames e)
  shown_pushed l k e x =
      λ i. record { queue = queue_put l.queue k (l.queue k ++ e ∷ []) _ (map_push (copy_of frames) (l.queue k) e) i; tokens = l.tokens; out = option_map (copy_of frames) l.out }

  pub shown_shifted : (l : Line) (k : ℕ) → shown frames (shifted l k) ≡ with_queue (shown frames l) k (rest_of ((shown frames l).queue k))
  shown_shifted l k =
      λ i. record { queue = queue_put l.queue k (rest_of (l.queue k)) _ (map_rest (copy_of frames) (l.queue k)) i; tokens = l.tokens; out = option_map (copy_of frames) l.out }

  pub shown_outed : (l : Line) (k : ℕ) → shown frames (outed l k) ≡ with_out (with_queue (shown frames l) k (rest_of ((shown frames l).queue k))) (first_of ((shown frames l).queue k))
  shown_outed l k = λ i. with_out (shown_shifted l k i) (map_first (copy_of frames) (l.queue k) i)

module _ (b : Buffers) (p : ℕ) (low : p < 4) where
  pub at_port : (d : ℕ) → egress d b p ≡ shown (frame_at b) (lines b.board p)
  at_port d = cond-true (ltb p 4) (shown (frame_at b) (lines b.board p)) (empty_port d) (lt-ltb p 4 low)

  -- one port changed by G
  pub view_changed : (l : Line) (board : Board) → lines board ≡ put (lines b.board) p l → (G : Egress → Egress) → shown (frame_at b) l ≡ G (shown (frame_at b) (lines b.board p)) → (d : ℕ) → egress_of d (frame_at b) (lines board) ≡ changed (egress d b) p G
  view_changed l board state G is d = λ i q. (ap (λ ls. egress_of d (frame_at b) ls q) state ∙ each q) i
    where
      each : (q : ℕ) → egress_of d (frame_at b) (put (lines b.board) p l) q ≡ changed (egress d b) p G q
      each q =
          ⊎_elim
          (λ same.
          ap (egress_of d (frame_at b) (put (lines b.board) p l)) same
          ∙ cond-true (ltb p 4) _ _ (lt-ltb p 4 low)
          ∙ ap (shown (frame_at b)) (put_same (lines b.board) p l p refl)
          ∙ is
          ∙ ap G (sym (at_port d))
          ∙ sym (put_same (egress d b) p (G (egress d b p)) q same))
          (λ other.
          ap (λ x. cond (ltb q 4) (shown (frame_at b) x) (empty_port d)) (put_other (lines b.board) p l q other)
          ∙ sym (put_other (egress d b) p (G (egress d b p)) q other))
          (cases_eq q p)

new_port : (frames : ℕ → Copy) (t : ℕ) (b : Bool) → cond b (shown frames (empty_line (cond b t 0))) (empty_port t) ≡ empty_port t
new_port frames t true = refl
new_port frames t false = refl

-- empty lines are empty ports
pub new_view : (t : ℕ) (frames : ℕ → Copy) (ls : ℕ → Line) → ((p : ℕ) → ls p ≡ empty_line (cond (ltb p 4) t 0)) → egress_of t frames ls ≡ (λ p. empty_port t)
new_view t frames ls empty =
    λ i p. (ap (λ l. cond (ltb p 4) (shown frames l) (empty_port t)) (empty p) ∙ new_port frames t (ltb p 4)) i
