-- A test case of RFC 4231 for HMAC-SHA-256 and for HMAC-SHA-512, computed from the definitions.
-- Assumes nothing.
use mathlib.Core.Path.{◌≡◌, refl}
use Rattle.cells.specs.Numbers.{number, bytes_of}
use Rattle.hashes.specs.declared.Hash.TheVariants.{Sha256, Sha512}
use Rattle.sha_2.specs.Word.{Ch, Maj, Σ0, Σ1, σ0, σ1}
use Rattle.sha_2.specs.Constants.{K, initial}
use Rattle.sha_2.specs.Block.{mix, schedule, T1, T2, round_of, rounds, sum_of, after_block}
use Rattle.sha_2.specs.Hash.{padding, after_blocks, digest, sha2}
use Rattle.hmac.specs.Hmac.{key_block, xored, hmac, hmac_of}

-- 4.3, "Jefe" and "what do ya want for nothing?"
pub short_key : hmac_of Sha512 (bytes_of 4 0x4a656665) (bytes_of 28 0x7768617420646f2079612077616e7420666f72206e6f7468696e673f)
    ≡ bytes_of 64 0x164b7a7bfcf819e2e395fbe73b56e0a387bd64222e831fd610270cd7ea2505549758bf75c05a994a6d034f65f8f0e6fdcaeab1a34d4a6b4b636e070a38bce737
unfolding Ch Maj Σ0 Σ1 σ0 σ1 K initial mix schedule T1 T2 round_of rounds sum_of after_block padding after_blocks digest sha2 number bytes_of key_block xored hmac
short_key = refl

pub short_key256 : hmac_of Sha256 (bytes_of 4 0x4a656665) (bytes_of 28 0x7768617420646f2079612077616e7420666f72206e6f7468696e673f)
    ≡ bytes_of 32 0x5bdcc146bf60754e6a042426089575c75a003f089d2739839dec58b964ec3843
unfolding Ch Maj Σ0 Σ1 σ0 σ1 K initial mix schedule T1 T2 round_of rounds sum_of after_block padding after_blocks digest sha2 number bytes_of key_block xored hmac
short_key256 = refl
