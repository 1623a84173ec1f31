-- A buffer that is filled from its front: the next bytes go behind those that are there.
use Rattle.std.proofs.Common.{◌≡◌, ℕ, ◌+◌, ◌≤◌, List, ◌++◌, ap, ◌∙◌, sym, length, take, length-take-le}
use Rattle.std.proofs.Math.Seq.{take-append-add}
use Rattle.std.proofs.lemmas.List.{take-append-le}
use borrow.Rule.Slice.PartMut.{put_mid, post_of}

-- what lies behind the first `at` bytes is written anew, and `count` of it are bytes that came
pub front_joined : (at room count : ℕ) (text rest : List ℕ) → at ≤ length text → count ≤ length rest
    → take (at + count) (put_mid at room text rest) ≡ take at text ++ take count rest
front_joined at room count text rest within fits =
    let front = take at text in
    let back = rest ++ post_of at room text in
    let long : length front ≡ at = length-take-le at text within in
    ap (λ (n : ℕ). take (n + count) (front ++ back)) (sym long) ∙ take-append-add front back count ∙ ap (λ (l : List ℕ). front ++ l) (take-append-le count rest (post_of at room text) fits)
