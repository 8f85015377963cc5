use Rattle.std.proofs.Common.{◌≡◌, ℕ, ◌+◌, ◌-◌, ◌*◌, ◌/◌, ◌%◌, List, length, take, set, replicate, sym, ap, ◌∙◌, subst, ap₂, arith, length-take-le, rules}
use Rattle.cells.specs.Numbers.{bytes_of}
use Rattle.cells.specs.Runs.{spliced, fronted}
use Rattle.hashes.specs.declared.Hash.{Hash}
use Rattle.hashes.specs.Hashes.{digest_size}
use Rattle.sha_2.specs.Constants.{initial}
use Rattle.sha_2.specs.Hash.{block_size, padding, padded, after_blocks, digest, sha2}
use Rattle.sha_2.specs.InnerWords.{Fit}
use Rattle.sha_2.proofs.Fitting.{blocks_fit}
use Rattle.sha_2.proofs.Padding.{end, closes, length_padding, padding_laid}
use Rattle.sha_2.proofs.Streaming.{counts, closed_by}
use Rattle.sha_2.proofs.State.finish.Goals as goal

pub returns : goal.returns
unfolding sha2
returns c h m p =
    let self = c.args.self.now in
    let n = self.length in
    let ends : c.begun-begun.result + 1 + c.zeros.result + c.block_size.result / 8 ≡ end self.hash n = rw (c.begun-begun.ensures, c.zeros.ensures, c.block_size.ensures) in
    let blocks : block_size self.hash * c.blocks_in.result ≡ end self.hash n = rw (c.blocks_in.ensures, ends) (closes self.hash n).blocks in
    let full : length self.tail ≡ 128 = search rules in
    let tail : List ℕ = take (n % block_size self.hash) self.tail in
    let kept : length tail ≡ n % block_size self.hash = length-take-le _ self.tail (omega (arith, counts self.hash n 0)) in
    let is : c.put64.new.out ≡ spliced (set (fronted tail (replicate 256 0)) (length tail) 128) (end self.hash n - 8) (bytes_of 8 (8 * n)) =
    rw (c.put64.ensures, c.put_front.ensures, ends, kept, c.begun-begun.ensures)
    in
    let closed : c.after_blocks-closed.result ≡ after_blocks h (initial h) (padded h m) (length (padded h m) / block_size h) =
    rw (ap₂ padding p.is p.counted) at
    (closed_by h self (padding self.hash n) m c.put64.new.out c.after_blocks-closed.result c.blocks_in.result
    (blocks ∙ sym (length_padding self.hash n))
    full
    (rw (blocks, is) (padding_laid self.hash n tail c.requires kept))
    c.after_blocks-closed.ensures
    p)
    in
    let fit : Fit h c.after_blocks-closed.result = subst (Fit h) (sym closed) (blocks_fit h (padded h m) (length (padded h m) / block_size h)) in
    subst (λ (x : Hash). Fit x c.after_blocks-closed.result → take (digest_size x) c.digest.result ≡ digest x c.after_blocks-closed.result) p.is c.digest.ensures fit
    ∙ ap (digest h) closed
