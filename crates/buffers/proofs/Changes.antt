-- The changes of one port's line, as far as several calls share them. Assumes nothing.
use Rattle.std.proofs.Common.{◌≡◌, ℕ, ◌<◌, [], ◌∷◌, ◌++◌, map, None, Option, Some, sum_by, sym, refl, ap, ◌∙◌, arith}
use Rattle.std.proofs.lemmas.List.{map_push}
use Rattle.std.specs.Option.{option_map, option_to_list}
use Rattle.frame.proofs.Ports.{each_of_four}
use Rattle.frame.specs.Numbers.{port_number, queue_number}
use Rattle.frame.specs.declared.numbers.Port.{Port}
use Rattle.frame.specs.declared.numbers.Queue.{Queue}
use Rattle.frame.specs.declared.numbers.Queue.TheVariants.{Cyclic0, Cyclic1, Paid, BestEffort}
use Rattle.rules.specs.Copies as rules
use Rattle.rules.specs.Copies.{put}
use Rattle.buffers.proofs.Leaving.{Leaves}
use Rattle.buffers.proofs.Sums.{out_sum, outed_sum, shifted_sum}
use Rattle.buffers.proofs.Views.{at_port, map_rest, shown_shifted, view_changed}
use Rattle.buffers.specs.Boards.{lines}
use Rattle.buffers.specs.Entries.{copy_of, egress_of, price_of}
use Rattle.buffers.specs.Holdings.{changed, egress, first_gone, frame_at}
use Rattle.buffers.specs.Lines.{Line, outed, pushed, shifted, with_out, with_tokens}
use Rattle.cells.specs.Fifos.{first_of, rest_of}
use Rattle.buffers.specs.declared.boards.Board.{Board}
use Rattle.buffers.specs.declared.buffers.Buffers.{Buffers}
use Rattle.buffers.specs.declared.ports.Waiting.{Waiting}

pub queue_low : (q : Queue) → queue_number q < 4
queue_low Cyclic0 = omega arith
queue_low Cyclic1 = omega arith
queue_low Paid = omega arith
queue_low BestEffort = omega arith

pub mapped_none : {A B : Type 0} (g : A → B) (o : Option A) → option_map g o ≡ None → o ≡ None
mapped_none g None e = refl
mapped_none g (Some x) e = cc

module _ (l : Line) (g : Waiting → ℕ) (prices : l.prices ≡ map g (l.queue 2)) where
  shifted_prices : (k : ℕ) → k < 4 → (shifted l k).prices ≡ map g ((shifted l k).queue 2)
  shifted_prices =
      each_of_four (λ k. (shifted l k).prices ≡ map g ((shifted l k).queue 2)) prices prices (ap rest_of prices ∙ sym (map_rest g (l.queue 2))) prices

  pub pushed_prices : (e : Waiting) (x : ℕ) → x ≡ g e → (k : ℕ) → k < 4 → (pushed l k e x).prices ≡ map g ((pushed l k e x).queue 2)
  pushed_prices e x is =
      each_of_four (λ k. (pushed l k e x).prices ≡ map g ((pushed l k e x).queue 2)) prices prices ((λ i. prices i ++ is i ∷ []) ∙ sym (map_push g (l.queue 2) e)) prices

-- the calls after which a port has one copy less, or as many, and what they are to the definition's ports
module _ (b : Buffers) (port : Port) where
  abbrev old : Line
  old = lines b.board (port_number port)

  pub tokens_set : (t : ℕ) → Leaves b (port_number port) (with_tokens old t) None
  tokens_set t = record { low = port.within; sums = λ f. omega arith; prices = b.priced (port_number port) port.within }

  pub out_leaves : (o : Option Waiting) → o ≡ old.out → Leaves b (port_number port) (with_out old None) o
  out_leaves o is = record {
    low = port.within;
    sums = λ f. omega (arith, out_sum f old, ap (λ x. sum_by f (option_to_list x)) is);
    prices = b.priced (port_number port) port.within;
  }

  pub out_view : (board : Board) → lines board ≡ put (lines b.board) (port_number port) (with_out old None) → (d : ℕ) → egress_of d (frame_at b) (lines board) ≡ changed (egress d b) (port_number port) (λ e. rules.with_out e None)
  out_view board state = view_changed b (port_number port) port.within (with_out old None) board state (λ e. rules.with_out e None) refl

  module _ (queue : Queue) where
    abbrev k : ℕ
    k = queue_number queue

    prices_left : (shifted old k).prices ≡ map (price_of (frame_at b)) ((shifted old k).queue 2)
    prices_left = shifted_prices old (price_of (frame_at b)) (b.priced (port_number port) port.within) k (queue_low queue)

    pub first_leaves : (o : Option Waiting) → o ≡ first_of (old.queue k) → Leaves b (port_number port) (shifted old k) o
    first_leaves o is = record {
      low = port.within;
      sums = λ f. omega (arith, shifted_sum f old k (queue_low queue), ap (λ x. sum_by f (option_to_list x)) is);
      prices = prices_left;
    }

    pub first_view : (board : Board) → lines board ≡ put (lines b.board) (port_number port) (shifted old k) → (d : ℕ) → egress_of d (frame_at b) (lines board) ≡ changed (egress d b) (port_number port) (first_gone k)
    first_view board state = view_changed b (port_number port) port.within (shifted old k) board state (first_gone k) (shown_shifted (frame_at b) old k)

    pub first_taken : old.out ≡ None → Leaves b (port_number port) (outed old k) None
    first_taken none = record {
      low = port.within;
      sums = λ f. omega (arith, outed_sum f old none k (queue_low queue));
      prices = prices_left;
    }

  -- no copy is out, in the definition's terms and here
  pub none_out : (egress 0 b (port_number port)).out ≡ None → old.out ≡ None
  none_out none = mapped_none (copy_of (frame_at b)) old.out (ap (λ e. e.out) (sym (at_port b (port_number port) port.within 0)) ∙ none)
