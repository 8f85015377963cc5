-- Worked examples of FIPS 180-4 for SHA-256 and SHA-512, computed from the definitions: a message of one block, and one of two.
-- Assumes nothing.
use Rattle.std.proofs.Common.{◌≡◌, refl}
use Rattle.cells.specs.Numbers.{number, bytes_of}
use Rattle.sha_2.specs.Word.{Ch, Maj, Σ0, Σ1, σ0, σ1}
use Rattle.sha_2.specs.Constants.{K, initial}
use Rattle.sha_2.specs.Block.{mix, schedule, T1, T2, round_of, rounds, sum_of, after_block}
use Rattle.sha_2.specs.Hash.{padding, after_blocks, digest, sha2, sha256, sha512}

-- "abc"
pub one_block : sha512 (bytes_of 3 0x616263)
    ≡ bytes_of 64 0xddaf35a193617abacc417349ae20413112e6fa4e89a97ea20a9eeee64b55d39a2192992a274fc1a836ba3c23a3feebbd454d4423643ce80e2a9ac94fa54ca49f
unfolding Ch Maj Σ0 Σ1 σ0 σ1 K initial mix schedule T1 T2 round_of rounds sum_of after_block padding after_blocks digest sha2 number bytes_of
one_block = refl

-- "abcdefghbcdefghi..nopqrstu", 112 bytes
pub two_blocks : sha512 (bytes_of 112 0x61626364656667686263646566676869636465666768696a6465666768696a6b65666768696a6b6c666768696a6b6c6d6768696a6b6c6d6e68696a6b6c6d6e6f696a6b6c6d6e6f706a6b6c6d6e6f70716b6c6d6e6f7071726c6d6e6f707172736d6e6f70717273746e6f707172737475)
    ≡ bytes_of 64 0x8e959b75dae313da8cf4f72814fc143f8f7779c6eb9f7fa17299aeadb6889018501d289e4900f7e4331b99dec4b5433ac7d329eeb6dd26545e96e55b874be909
unfolding Ch Maj Σ0 Σ1 σ0 σ1 K initial mix schedule T1 T2 round_of rounds sum_of after_block padding after_blocks digest sha2 number bytes_of
two_blocks = refl

-- "abc" under SHA-256
pub one_block256 : sha256 (bytes_of 3 0x616263) ≡ bytes_of 32 0xba7816bf8f01cfea414140de5dae2223b00361a396177a9cb410ff61f20015ad
unfolding Ch Maj Σ0 Σ1 σ0 σ1 K initial mix schedule T1 T2 round_of rounds sum_of after_block padding after_blocks digest sha2 number bytes_of
one_block256 = refl

-- "abcdbcdecdef..nopq", 56 bytes
pub two_blocks256 : sha256 (bytes_of 56 0x6162636462636465636465666465666765666768666768696768696a68696a6b696a6b6c6a6b6c6d6b6c6d6e6c6d6e6f6d6e6f706e6f7071)
    ≡ bytes_of 32 0x248d6a61d20638b8e5c026930c3e6039a33ce45964ff2167f6ecedd419db06c1
unfolding Ch Maj Σ0 Σ1 σ0 σ1 K initial mix schedule T1 T2 round_of rounds sum_of after_block padding after_blocks digest sha2 number bytes_of
two_blocks256 = refl
