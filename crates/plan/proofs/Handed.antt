-- What is handed out stands in front of zeros: the turns, the lengths of the codes, and the codes, each in the next cell.
use Prim.Native.Nat.{ℕ, suc, ◌+◌, ◌-◌, ◌*◌, ◌≤◌, ◌<◌}
use mathlib.Core.Path.{◌≡◌, refl, sym, ap, ◌∙◌}
use mathlib.Core.List.{List, [], ◌∷◌, ◌++◌, map, append_assoc, append-nil}
use native.Mathlib.Omega.{arith}
use native.Mathlib.Numerals.{add-one}
use lib.ListN.{length, get_or, take, drop, set, length-append, length-map}
use Rattle.std.proofs.lemmas.List.{drop-replicate, take-replicate, map-append}
use borrow.Rule.Slice.PartMut.{mid_of, put_mid}
use lib.Seq.{take_at, drop_at, set-append_seam, take-suc, length-take-le}
use Rattle.text.specs.Limits.{most_stocks, most_turns, most_code}
use Rattle.text.specs.Buffers.{zeros, padded, cells_of}
use Rattle.text.proofs.Lengths.{padded-long, padded-none}

-- ---- turns

pub turns_put : (turns buffer : List ℕ) → buffer ≡ turns ++ drop (length turns) (zeros most_turns) → buffer ≡ padded most_turns turns
unfolding padded
turns_put turns buffer e = e ∙ ap (λ (l : List ℕ). turns ++ l) (drop-replicate (length turns) most_turns 0)

-- ---- lengths

one-more : (n : ℕ) (x : List ℕ) (v : ℕ) → length x < n → set (padded n x) (length x) v ≡ padded n (x ++ (v ∷ []))
unfolding padded
one-more n x v h =
    let m : n - length x ≡ suc (n - length (x ++ (v ∷ []))) = omega (arith, length-append x (v ∷ [])) in
    ap (λ (k : ℕ). set (x ++ zeros k) (length x) v) m ∙ set-append_seam x 0 (zeros (n - length (x ++ (v ∷ [])))) v
    ∙ sym (append_assoc x (v ∷ []) (zeros (n - length (x ++ (v ∷ [])))))

-- ---- cells

module _ (x c : List ℕ) (n : ℕ) (room : length x + most_code ≤ n) (short : length c ≤ most_code) where
  cells_long : length (x ++ padded most_code c) ≡ length x + most_code
  cells_long = omega (arith, length-append x (padded most_code c), padded-long most_code c short)

  -- a code into the cell behind x
  cell-more : (at : ℕ) → length x ≡ at → put_mid at most_code (padded n x) (c ++ drop (length c) (mid_of at most_code (padded n x))) ≡ padded n (x ++ padded most_code c)
  unfolding padded
  cell-more at e =
      let m : ℕ = n - length x in
      let cell : take most_code (zeros m) ≡ zeros most_code = take-replicate most_code m 0 (omega arith) in
      let rest : n - length (x ++ padded most_code c) ≡ m - most_code = let l : length (x ++ padded most_code c) ≡ length x + most_code = cells_long in omega arith in
      rw (
        take_at x (zeros m) at e,
        drop_at x (zeros m) at e,
        cell,
        drop-replicate {X = ℕ} (length c) most_code 0,
        drop-replicate {X = ℕ} most_code m 0,
        rest,
      ) (sym (append_assoc x (c ++ zeros (most_code - length c)) (zeros (m - most_code))))

-- a whole cell needs no zeros behind it
cell_full : (cell : List ℕ) → length cell ≡ most_code → padded most_code cell ≡ cell
unfolding padded
cell_full cell long = let none : most_code - length cell ≡ 0 = omega arith in rw none (append-nil cell)

-- the cells of one code more
cells-snoc : (cs : List (List ℕ)) (c : List ℕ) → cells_of (cs ++ (c ∷ [])) ≡ cells_of cs ++ padded most_code c
unfolding cells_of
cells-snoc [] c = append-nil (padded most_code c)
cells-snoc (d ∷ cs) c = ap (λ (l : List ℕ). padded most_code d ++ l) (cells-snoc cs c) ∙ sym (append_assoc (padded most_code d) (cells_of cs) (padded most_code c))

pub no_cells : length (cells_of []) ≡ 0
unfolding cells_of
no_cells = refl

pub zero_cells : zeros (most_stocks * most_code) ≡ padded (most_stocks * most_code) (cells_of [])
unfolding cells_of
zero_cells = padded-none (most_stocks * most_code)

-- the next code
module _ (codes : List (List ℕ)) (k : ℕ) (c : List ℕ) (here : k < length codes) (most : length codes ≤ most_stocks) (d : List ℕ) (c_is : c ≡ get_or codes k d) (short : length c ≤ most_code) (filled : length (cells_of (take k codes)) ≡ k * most_code) where
  next : take (k + 1) codes ≡ take k codes ++ (c ∷ [])
  next = rw add-one (take-suc codes k d here ∙ ap (λ (b : List ℕ). take k codes ++ (b ∷ [])) (sym c_is))

  pub cells_filled : length (cells_of (take (k + 1) codes)) ≡ (k + 1) * most_code
  cells_filled = omega (arith, ap (λ (l : List (List ℕ)). length (cells_of l)) next, ap length (cells-snoc (take k codes) c), cells_long (cells_of (take k codes)) c (most_stocks * most_code) (omega arith) short)

  -- into the next cell, bytes that fill it as the code does
  put_more : (b : List ℕ) → length b ≤ most_code → padded most_code b ≡ padded most_code c → (cells part : List ℕ) → cells ≡ padded (most_stocks * most_code) (cells_of (take k codes))
      → part ≡ b ++ drop (length b) (mid_of (k * most_code) ((k + 1) * most_code - k * most_code) cells)
      → put_mid (k * most_code) ((k + 1) * most_code - k * most_code) cells part ≡ padded (most_stocks * most_code) (cells_of (take (k + 1) codes))
  put_more b few is cells part e h =
      let twelve : (k + 1) * most_code - k * most_code ≡ most_code = omega arith in
      let after : cells_of (take k codes) ++ padded most_code b ≡ cells_of (take (k + 1) codes) = rw is (sym (ap cells_of next ∙ cells-snoc (take k codes) c)) in
      rw (h, twelve, e) (cell-more (cells_of (take k codes)) b (most_stocks * most_code) (omega arith) few (k * most_code) filled ∙ ap (padded (most_stocks * most_code)) after)

  -- the code's own bytes
  pub cells_more : (cells part : List ℕ) → cells ≡ padded (most_stocks * most_code) (cells_of (take k codes))
      → part ≡ c ++ drop (length c) (mid_of (k * most_code) ((k + 1) * most_code - k * most_code) cells)
      → put_mid (k * most_code) ((k + 1) * most_code - k * most_code) cells part ≡ padded (most_stocks * most_code) (cells_of (take (k + 1) codes))
  cells_more = put_more c short refl

  -- the code's cell, whole
  pub cells_whole : (cells cell part : List ℕ) → cells ≡ padded (most_stocks * most_code) (cells_of (take k codes)) → cell ≡ padded most_code c
      → part ≡ cell ++ drop (length cell) (mid_of (k * most_code) ((k + 1) * most_code - k * most_code) cells)
      → put_mid (k * most_code) ((k + 1) * most_code - k * most_code) cells part ≡ padded (most_stocks * most_code) (cells_of (take (k + 1) codes))
  cells_whole cells cell part e f =
      let long : length cell ≡ most_code = rw f (padded-long most_code c short) in
      put_more cell (omega arith) (cell_full cell long ∙ f) cells part e

  pub lens_more : (lens : List ℕ) → lens ≡ padded most_stocks (map length (take k codes)) → set lens k (length c) ≡ padded most_stocks (map length (take (k + 1) codes))
  lens_more lens e =
      let l : length (map (length {A = ℕ}) (take k codes)) ≡ k = omega (arith, length-map (take k codes) (length {A = ℕ}), length-take-le k codes (omega arith)) in
      ap (λ (m : List ℕ). set m k (length c)) e
      ∙ ap (λ (i : ℕ). set (padded most_stocks (map length (take k codes))) i (length c)) (sym l)
      ∙ one-more most_stocks (map length (take k codes)) (length c) (omega arith)
      ∙ ap (padded most_stocks) (sym (ap (map length) next ∙ map-append length (take k codes) (c ∷ [])))
