-- How far the checks of Arrive are passed. Assumes nothing.
use Rattle.std.proofs.Common.{◌≡◌, ℕ, ◌^◌, ◌<◌, ◌≤◌, true, false, not, leb, List, [], ◌∷◌, ◌++◌, length, get_or, ap, ◌∙◌, arith}
use Rattle.std.proofs.lemmas.Bool.{cond-false, leb-false, leb-true, lt-leb, ltb-false, not-false, true≢false}
use Rattle.cells.specs.Rules.{Fair, admitted}
use Rattle.forwarding.specs.Ways.{Proper, Way, tap, to, unknown}
use Rattle.frame.specs.Classes.{class_number}
use Rattle.frame.specs.declared.classes.Class.{Class}
use Rattle.frame.specs.declared.classes.Class.TheVariants.{BestEffort, Reserved, Clock, TimeSensitive}
use Rattle.frame.specs.Frames.{class, destination, fits}
use Rattle.frame.specs.Refusals.{accepted}
use Rattle.rules.specs.Switch.{Behind, Check, State, arrive_checks, free, is_tap, is_unknown, judged, no_such_port, numbers, set_of, way_of}
use Rattle.rules.proofs.Checks.{first_passed, passed}
use Rattle.switch.specs.Headings.{heading_checks, heading_of, ports_by, way_checks}

module _ (b : Behind) (s : State) (p : ℕ) (f : List ℕ) where
  -- the last check
  abbrev pub cells_check : Check
  cells_check = record { fails = not (admitted (b.floor (class f)) (free s)); number = 6; value = class f }

  -- what the checks before it gave
  pub record Until (q d k set : ℕ) : Type 0 where
    pub port : q ≡ p
    pub class_is : k ≡ class f
    pub set_is : set ≡ set_of (way_of b s p f)
    pub checks : (x : ℕ × ℕ) → judged (arrive_checks b s p f) x ≡ judged (cells_check ∷ []) x

  pub until : (q d k set : ℕ) → accepted (q, d, k) ≡ heading_of p f → s.next < 2 ^ 48 → accepted set ≡ ports_by (b.forward d q) q → Until q d k set
  until q d k set read numbered found =
      let back : List Check = record { fails = leb numbers s.next; number = 3; value = 0 } ∷ (way_checks (way_of b s p f) p ++ cells_check ∷ []) in
      let is : (q, d, k) ≡ (p, destination f, class f) = (passed (heading_checks p f) back (q, d, k) (p, destination f, class f) p read).0 in
      let port : q ≡ p = ap (λ t. t.0) is in
      let way : b.forward d q ≡ way_of b s p f = λ i. b.forward (is i).1 (is i).0 in
      let found_here : accepted set ≡ ports_by (way_of b s p f) p = found ∙ (λ i. ports_by (way i) (port i)) in
      record {
        port = port;
        class_is = ap (λ t. t.2) is;
        set_is = (passed (way_checks (way_of b s p f) p) (cells_check ∷ []) set (set_of (way_of b s p f)) p found_here).0;
        checks = λ x.
            (passed (heading_checks p f) back (q, d, k) (p, destination f, class f) x read).1
            ∙ cond-false (leb numbers s.next) _ _ (lt-leb numbers s.next numbered)
            ∙ (passed (way_checks (way_of b s p f) p) (cells_check ∷ []) set (set_of (way_of b s p f)) x found_here).1;
      }

  -- what is known of a frame that every check let through
  pub record Through : Type 0 where
    pub port : p < 4
    pub fit : fits f ≡ true
    pub numbered : s.next < 2 ^ 48
    pub tapped : is_tap (way_of b s p f) ≡ false
    pub known : is_unknown (way_of b s p f) ≡ false
    pub room : b.floor (class f) ≤ free s

  pub through : {A : Type 0} (z y : A) → accepted z ≡ judged (arrive_checks b s p f) y → Through
  through z y e =
      let fit-check : Check = record { fails = not (fits f); number = 2; value = length f } in
      let number-check : Check = record { fails = leb numbers s.next; number = 3; value = 0 } in
      let tap-check : Check = record { fails = is_tap (way_of b s p f); number = 4; value = p } in
      let known-check : Check = record { fails = is_unknown (way_of b s p f); number = 5; value = p } in
      let one = first_passed (no_such_port p) (fit-check ∷ number-check ∷ tap-check ∷ known-check ∷ cells_check ∷ []) z y e in
      let two = first_passed fit-check (number-check ∷ tap-check ∷ known-check ∷ cells_check ∷ []) z y one.1 in
      let three = first_passed number-check (tap-check ∷ known-check ∷ cells_check ∷ []) z y two.1 in
      let four = first_passed tap-check (known-check ∷ cells_check ∷ []) z y three.1 in
      let five = first_passed known-check (cells_check ∷ []) z y four.1 in
      let six = first_passed cells_check [] z y five.1 in
      record {
        port = omega (arith, ltb-false 3 p one.0);
        fit = not-false _ two.0;
        numbered = leb-false numbers s.next three.0;
        tapped = four.0;
        known = five.0;
        room = leb-true (b.floor (class f)) (free s) (not-false _ six.0);
      }

some_ports : (p : ℕ) (w : Way) → Proper p w → is_tap w ≡ false → is_unknown w ≡ false → 0 < set_of w
some_ports p (to set) proper no-tap known = proper.0
some_ports p unknown proper no-tap known = absurd (true≢false known)
some_ports p tap proper no-tap known = absurd (true≢false no-tap)

-- a proper way that is known has a port
pub ports_there : (b : Behind) (s : State) (p : ℕ) (f : List ℕ) → Through b s p f → Proper p (way_of b s p f) → 0 < set_of (way_of b s p f)
ports_there b s p f t proper = some_ports p (way_of b s p f) proper t.tapped t.known

-- no class is admitted without a cell
pub floor_some : (floor : ℕ → ℕ) → Fair floor → (c : Class) → 0 < floor (class_number c)
floor_some floor fair BestEffort = omega (arith, fair.some, fair.rising)
floor_some floor fair Reserved = omega (arith, fair.some)
floor_some floor fair Clock = omega (arith, fair.clock)
floor_some floor fair TimeSensitive = omega (arith, fair.time_sensitive)

-- a destination has 48 bits
pub destination_low : (f : List ℕ) → ((i : ℕ) → get_or f i 0 < 256) → destination f < 2 ^ 48
destination_low f bytes = omega (arith, bytes 0, bytes 1, bytes 2, bytes 3, bytes 4, bytes 5)
