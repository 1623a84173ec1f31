-- The lines put one behind the other, and the pages that they fill.
use Prim.Native.Nat.{ℕ, zero, suc, ◌+◌, ◌*◌, ◌≤◌, ◌<◌, min}
use mathlib.Core.Path.{◌≡◌, refl, sym, ap, ◌∙◌}
use mathlib.Core.List.{List, [], ◌∷◌, ◌++◌, append_assoc, append-nil}
use native.Mathlib.Nat.{add-zero}
use native.Mathlib.Decide.{dec_lt}
use native.Mathlib.Omega.{arith}
use lib.ListN.{length, get_or, take, length-take, length-append}
use lib.Seq.{take_all, length-take-le, get_or-take}
use Rattle.std.proofs.lemmas.List.{take_more}
use Rattle.method.specs.declared.State.{State}
use Rattle.method.specs.declared.State.TheVariants.{NotBegun, Uniting, Gathering, Settled}
use Rattle.method.specs.declared.Row.{Row}
use Rattle.method.specs.Demand.{is_settled}
use Rattle.answer.specs.declared.shown.Shown.{Shown}
use Rattle.answer.specs.Answer.{shown_of, state_number, stations_shown, stocks_shown}
use Rattle.text.specs.Limits.{most_code}
use Rattle.page.specs.declared.TheConstants.{PAGE}
use Rattle.page.specs.Digits.{decimal}
use Rattle.page.specs.Lines.{ST, line, refusal_line, run_line, stock_line, set_shown, station_line, numbered, report_lines, most_station}
use Rattle.page.specs.Page.{put_behind, has_settled, code_at, codes_from, codes_in}
use Rattle.page.proofs.Laying.{behind_then, behind-nothing}
use Rattle.page.proofs.Sizes.{refusal-most, lines-most}

-- ---- a refusal, a station

pub refusal_fits : (number place : ℕ) → number < 65536 → place < 65536 → length (refusal_line number place) ≤ PAGE
refusal_fits number place h k = refusal-most number place (omega arith) (omega arith)

settled_too : (s : State) → has_settled (shown_of s) ≡ is_settled s
settled_too (NotBegun stocks) = refl
settled_too (Uniting k own other side round) = refl
settled_too (Gathering S j got) = refl
settled_too (Settled S got) = refl

pub station_put : (start last : List ℕ) (i : ℕ) (row : Row) (told : Shown) (state wide : ℕ) → told ≡ shown_of row.state → state ≡ state_number told → wide ≡ state
    → last ≡ put_behind start (line (ST ∷ decimal i ∷ decimal wide ∷ decimal row.count ∷ set_shown (has_settled told) 4 (stations_shown told) ∷ set_shown (has_settled told) 16 (stocks_shown told) ∷ []))
    → last ≡ put_behind start (station_line i row)
unfolding station_line
station_put start last i row told state wide e f g h = h ∙ rw (g, f, e, settled_too row.state)

-- ---- a line more

numbered-last : {A : Type 0} (line_of : ℕ → A → List ℕ) (k : ℕ) (xs : List A) (x : A) → numbered line_of k xs ++ line_of (k + length xs) x ≡ numbered line_of k (xs ++ x ∷ [])
unfolding numbered
numbered-last line_of k [] x = rw (add-zero k) (sym (append-nil (line_of k x)))
numbered-last line_of k (y ∷ xs) x =
    let next : k + suc (length xs) ≡ suc k + length xs = omega arith in
    rw next (append_assoc (line_of k y) (numbered line_of (suc k) xs) (line_of (suc k + length xs) x) ∙ ap (λ (l : List ℕ). line_of k y ++ l) (numbered-last line_of (suc k) xs x))

module _ (cells lens : List ℕ) where
  codes-last : (k n : ℕ) → codes_from cells lens k (suc n) ≡ codes_from cells lens k n ++ code_at cells lens (k + n) ∷ []
  unfolding codes_from
  codes-last k zero = rw (add-zero k)
  codes-last k (suc n) =
      let next : k + suc n ≡ suc k + n = omega arith in
      rw next (ap (λ (l : List (List ℕ)). code_at cells lens k ∷ l) (codes-last (suc k) n))

  codes-length : (k n : ℕ) → length (codes_from cells lens k n) ≡ n
  unfolding codes_from
  codes-length k zero = refl
  codes-length k (suc n) = ap suc (codes-length (suc k) n)

  codes-short : (k n j : ℕ) → j < n → length (get_or (codes_from cells lens k n) j []) ≤ most_code
  unfolding codes_from
  codes-short k zero j h = absurd (omega arith)
  codes-short k (suc n) zero h = simp length-take (omega arith)
  codes-short k (suc n) (suc j) h = codes-short (suc k) n j (omega arith)

  pub no-stock : (page : List ℕ) → page ≡ put_behind page (numbered stock_line 0 (codes_from cells lens 0 0))
  unfolding numbered codes_from
  no-stock page = behind-nothing page

  pub one-stock : (start page last code : List ℕ) (k : ℕ) → page ≡ put_behind start (numbered stock_line 0 (codes_from cells lens 0 k)) → code ≡ code_at cells lens k
      → last ≡ put_behind page (stock_line k code) → last ≡ put_behind start (numbered stock_line 0 (codes_from cells lens 0 (k + 1)))
  one-stock start page last code k e f g =
      let so_far : List (List ℕ) = codes_from cells lens 0 k in
      let more : k + 1 ≡ suc k = omega arith in
      let here : 0 + length so_far ≡ k = omega (arith, codes-length 0 k) in
      let place : 0 + k ≡ k = omega arith in
      let next : so_far ++ code ∷ [] ≡ codes_from cells lens 0 (k + 1) = rw (f, more, codes-last 0 k, place) in
      behind_then start page last (numbered stock_line 0 so_far) (stock_line k code) (numbered stock_line 0 (codes_from cells lens 0 (k + 1))) e g
      (ap (λ (m : ℕ). numbered stock_line 0 so_far ++ stock_line m code) (sym here) ∙ numbered-last stock_line 0 so_far code ∙ ap (numbered stock_line 0) next)

module _ (rows : List Row) where
  -- the stations' lines so far, and that they are short
  pub record Stationed (start page : List ℕ) (i : ℕ) : Type 0 where
    pub put : page ≡ put_behind start (numbered station_line 1 (take i rows))
    pub short : length (numbered station_line 1 (take i rows)) ≤ i * most_station

  pub no-station : (page : List ℕ) → Stationed page page 0
  unfolding numbered
  no-station page = record { put = behind-nothing page; short = omega arith }

  pub one-station : (start page last : List ℕ) (i n : ℕ) (d : Row) → i < length (take n rows) → Stationed start page i
      → last ≡ put_behind page (station_line (i + 1) (get_or (take n rows) i d)) → length (station_line (i + 1) (get_or (take n rows) i d)) ≤ most_station → Stationed start last (i + 1)
  one-station start page last i n d h e f m =
      let few : length (take n rows) ≡ min n (length rows) = length-take n rows in
      let row : get_or (take n rows) i d ≡ get_or rows i d = get_or-take n rows i d (omega arith) in
      let line : List ℕ = station_line (i + 1) (get_or rows i d) in
      let so_far : List ℕ = numbered station_line 1 (take i rows) in
      let here : 1 + length (take i rows) ≡ i + 1 = omega (arith, length-take-le i rows (omega arith)) in
      let whole : so_far ++ line ≡ numbered station_line 1 (take (i + 1) rows) =
      ap (λ (k : ℕ). so_far ++ station_line k (get_or rows i d)) (sym here) ∙ numbered-last station_line 1 (take i rows) (get_or rows i d)
      ∙ ap (numbered station_line 1) (sym (take_more rows i d (omega arith))) in
      let short : length line ≤ most_station = rw (← row) m in
      record {
        put = behind_then start page last so_far line (numbered station_line 1 (take (i + 1) rows)) e.put (rw (← row) f) whole;
        short = rw (← whole, length-append so_far line) (omega (arith, e.short));
      }

  -- the first n rows, or all sixteen
  pub all-stations : (start page : List ℕ) (i n : ℕ) → length rows ≡ 16 → i ≡ min n 16 → Stationed start page i
      → (page ≡ put_behind start (numbered station_line 1 (take n rows))) × (length (numbered station_line 1 (take n rows)) ≤ 16 * most_station)
  all-stations start page i n long e s =
      (s.put ∙ ap (λ (r : List Row). put_behind start (numbered station_line 1 r)) all, rw (← all) (omega (arith, s.short)))
    where
      go : Dec (n < 16) → take i rows ≡ take n rows
      go (yes m) = let same : i ≡ n = omega arith in rw same
      go (no m) = let most : i ≡ 16 = omega arith in rw most (take_all 16 rows (omega arith) ∙ sym (take_all n rows (omega arith)))

      all : take i rows ≡ take n rows
      all = go (dec_lt n 16)

-- ---- the report

pub report_put : (n wide turns idle : ℕ) (codes : List (List ℕ)) (start a b last : List ℕ) (rows : List Row) → wide ≡ n → a ≡ put_behind start (run_line wide turns idle)
    → b ≡ put_behind a (numbered stock_line 0 codes) → last ≡ put_behind b (numbered station_line 1 (take n rows)) → last ≡ put_behind start (report_lines n turns idle codes rows)
unfolding report_lines
report_put n wide turns idle codes start a b last rows w f g i =
    let run : List ℕ = run_line n turns idle in
    let f' : a ≡ put_behind start run = rw (← w) f in
    behind_then start b last (run ++ numbered stock_line 0 codes) (numbered station_line 1 (take n rows)) (report_lines n turns idle codes rows)
    (behind_then start a b run (numbered stock_line 0 codes) (run ++ numbered stock_line 0 codes) f' g refl) i refl

pub report_fits : (n turns idle stocks : ℕ) (cells lens : List ℕ) (rows : List Row) → n < 256 → turns < 65536 → idle < 65536
    → length (numbered station_line 1 (take n rows)) ≤ 16 * most_station → length (report_lines n turns idle (codes_in cells lens stocks) rows) ≤ PAGE
report_fits n turns idle stocks cells lens rows h k l short =
    let few : length (codes_in cells lens stocks) ≡ min stocks 64 = codes-length cells lens 0 (min stocks 64) in
    lines-most n turns idle (codes_in cells lens stocks) rows (omega arith) (omega arith) (omega arith) (omega arith) (λ j m. codes-short cells lens 0 (min stocks 64) j (omega arith)) short
