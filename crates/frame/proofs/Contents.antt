-- What stands behind a frame's type, by its place in the whole frame. Assumes nothing.
use Rattle.std.proofs.Common.{◌≡◌, ℕ, ◌/◌, Bool, true, false, cond, eqb, List, length, get_or, drop, sym, refl, ap, ◌∙◌, ⊎_elim, arith, get_or-drop, drop-drop}
use Rattle.frame.specs.Classes.{class_of}
use Rattle.frame.specs.Numbers.{number_at}
use Rattle.std.proofs.lemmas.Bool.{cases_Bool, cond-true, cond-false}
use Rattle.frame.specs.Frames.{Content, Read, class, content, content_after, destination, fits, inner_type, outer_type, priority, read_as, reading_class, source, tagged}
use Rattle.frame.specs.Refusals.{accepted, refused}

-- both ways of the tag at once: t says whether there is one
either : (t : Bool) (f : List ℕ) (c k : ℕ) → ◌≡◌ {A = Content}
    (cond t (record { case = 0; priority = get_or (drop 14 f) 0 0 / 32; kind = number_at (drop 14 f) 2 2; place = 18; payload = drop 4 (drop 14 f) }) (record { case = c; priority = 0; kind = k; place = 14; payload = drop 14 f }))
    (record { case = cond t 0 c; priority = cond t (get_or f 14 0 / 32) 0; kind = cond t (number_at f 16 2) k; place = cond t 18 14; payload = drop (cond t 18 14) f })
either true f c k = simp (get_or-drop, drop-drop)
either false f c k = refl

pub content_behind : (f : List ℕ) → content_after (outer_type f) (drop 14 f) ≡ content f
content_behind f = either (tagged f) f (cond (eqb (outer_type f) 0x88F7) 1 2) (outer_type f)

-- a frame of the right length, put together from its parts
pub read_made : (f : List ℕ) (d s : ℕ) (c : Content) → fits f ≡ true → d ≡ destination f → s ≡ source f → c ≡ content f → accepted (record { destination = d; source = s; content = c }) ≡ read_as f
read_made f d s c fit ed es ec =
    (λ i. accepted (record { destination = ed i; source = es i; content = ec i })) ∙ sym (cond-true (fits f) _ _ fit)

-- what is read as x is a frame, and x is its reading
pub read_parts : (f : List ℕ) (x : Read) → accepted x ≡ read_as f → (fits f ≡ true) × (x ≡ record { destination = destination f; source = source f; content = content f })
read_parts f x e =
    ⊎_elim
    (λ fit. let y : accepted x ≡ accepted (record { destination = destination f; source = source f; content = content f }) = e ∙ cond-true (fits f) _ _ fit in (fit, cc))
    (λ unfit. let n : accepted x ≡ refused 2 (length f) = e ∙ cond-false (fits f) _ _ unfit in let z : ◌≡◌ {A = ℕ} 0 1 = cc in absurd (omega arith))
    (cases_Bool (fits f))

-- the case of a reading tells whether there is a tag
case_tagged : (t b : Bool) → eqb (cond t 0 (cond b 1 2)) 0 ≡ t
case_tagged true b = refl
case_tagged false true = refl
case_tagged false false = refl

pub read_class : (f : List ℕ) (x : Read) → accepted x ≡ read_as f → reading_class x.content ≡ class f
read_class f x e =
    ap (λ y. reading_class y.content) (read_parts f x e).1 ∙ ap (λ t. class_of t (priority f) (inner_type f)) (case_tagged (tagged f) (eqb (outer_type f) 0x88F7))
