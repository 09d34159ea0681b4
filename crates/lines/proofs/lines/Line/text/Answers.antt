use Rattle.std.proofs.Common.{◌≡◌, ℕ, ◌+◌, ◌<◌, List, [], ◌∷◌, ◌++◌, length, get_or, take, decimal, refl, ◌∙◌, append_assoc, append-nil, arith, length-append}
use Rattle.std.proofs.lemmas.List.{take_more}
use Rattle.lines.specs.Lines.{spaced}
use Rattle.lines.proofs.lines.Line.text.Goals as goal

spaced-append : (xs ys : List ℕ) → spaced (xs ++ ys) ≡ spaced xs ++ spaced ys
spaced-append [] ys = refl
spaced-append (x ∷ xs) ys = simp (spaced-append xs ys, append_assoc)

spaced_more : (xs : List ℕ) (i : ℕ) → i < length xs → spaced (take (i + 1) xs) ≡ spaced (take i xs) ++ (32 ∷ decimal (get_or xs i 0))
spaced_more xs i low = simp (take_more xs i 0 low, spaced-append, append-nil)

pub loop-value-preserved : goal.loop-value-preserved
loop-value-preserved c =
    let more = spaced_more c.as_slice-value-items.result.now c.loop-value.value-index (omega arith) in
    let pushed = c.push.ensures.ascii (omega arith) in
    let digits = c.format-in-loop-value.ensures.text in
    record {
      written = c.push_str-in-loop-value.ensures.bytes ∙ simp (pushed, c.loop-value.invariant.written, append_assoc) (cc);
      short = simp (c.push_str-in-loop-value.ensures.bytes, pushed, length-append) (omega arith);
    }
