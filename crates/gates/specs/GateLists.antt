-- Gate lists: what one says, and where one is wrong. A list is its bytes, one an entry. Assumes nothing.
use Rattle.std.specs.Prelude.{ℕ, ◌-◌, ◌/◌, ◌%◌, ◌^◌, Bool, cond, ◌&&◌, ◌||◌, List, length, find, Some, Option, ◌==◌, nat_le, nat_lt, slice_index}
use Rattle.std.specs.List.{range_with_len}

-- bit q of an entry, worth 2^q
abbrev pub entry_bit : ℕ → ℕ → ℕ
entry_bit e q = e / 2 ^ q % 2

-- the entry that slot s reads: the list is gone through over and over
abbrev pub entry_in : List ℕ → ℕ → ℕ
entry_in es s = slice_index es (s % length es)

-- bit q of that entry opens queue q in slot s
abbrev pub list_opens : List ℕ → ℕ → ℕ → Bool
list_opens es s q = entry_bit (entry_in es s) q == 1

-- of queues 0 and 1 the one that is shut in slot s
abbrev pub list_fills : List ℕ → ℕ → ℕ
list_fills es s = cond (list_opens es s 0) 1 0

-- a list has 2 to 1,024 entries, and an even number of them
abbrev pub right_count : ℕ → Bool
right_count n = nat_le 2 n && nat_le n 1024 && n % 2 == 0

-- one of bits 4 to 7 is set, or bits 0 and 1 are equal
abbrev pub ill_formed : ℕ → Bool
ill_formed e = nat_le 16 e || entry_bit e 0 == entry_bit e 1

-- the entry at place i has the bit 0 of the entry before it; the entry at place 0 has none before it
abbrev pub stays : List ℕ → ℕ → Bool
stays es i = nat_lt 0 i && entry_bit (slice_index es i) 0 == entry_bit (slice_index es (i - 1)) 0

-- the entry at place i is wrong
abbrev pub wrong_at : List ℕ → ℕ → Bool
wrong_at es i = ill_formed (slice_index es i) || stays es i

-- the first of the n places from i on at which the test holds
abbrev pub first_from : (ℕ → Bool) → ℕ → ℕ → Option ℕ
first_from test i n = find test (range_with_len i n)

-- the place where a list is wrong first: a wrong number of entries comes before all, and is itself the place
abbrev pub first_wrong : List ℕ → Option ℕ
first_wrong es = cond (right_count (length es)) (first_from (wrong_at es) 0 (length es)) (Some (length es))
