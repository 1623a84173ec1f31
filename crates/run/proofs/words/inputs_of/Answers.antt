-- Chunk after chunk, the inputs that the definition has.
use Rattle.std.proofs.Common.{◌≡◌, ◌*◌, ◌/◌, ◌<◌, List, ℕ, ap, length, get_or, arith}
use Rattle.run.proofs.Little.{one-read, all_read, chunk_is}
use Rattle.run.proofs.words.inputs_of.Goals as goal

pub loop-i-preserved : goal.loop-i-preserved
loop-i-preserved c =
    let here : c.loop-i.i < length c.args.bytes.now / 8 = omega (arith, c.as_chunks.ensures.front_len) in
    let in_sixteen : c.loop-i.i < 16 = omega arith in
    one-read _ _ _ _ c.loop-i.invariant in_sixteen
    (chunk_is c.args.bytes.now (length c.args.bytes.now / 8) c.loop-i.i c.from_le_bytes.result _ _ here (ap (λ (l : List (List ℕ)). get_or l c.loop-i.i _) c.as_chunks.ensures.front) c.from_le_bytes.ensures)

pub returns : goal.returns
returns c =
    let full : c.loop-i.i ≡ length c.args.bytes.now / 8 = omega (arith, c.as_chunks.ensures.front_len) in
    let eights : length c.args.bytes.now ≡ 8 * (length c.args.bytes.now / 8) = omega arith in
    all_read _ _ (length c.args.bytes.now / 8) eights (rw full at c.loop-i.invariant)
