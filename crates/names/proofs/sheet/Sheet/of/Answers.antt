-- The known names that are chosen are entered first, and then the extra ones.
use Rattle.std.proofs.Common.{refl, length, ap, arith}
use Rattle.names.proofs.Joined.{known_size}
use Rattle.names.proofs.Sizes.{short_extra, names_few}
use Rattle.names.proofs.Filled.{filled_size, filled_all, filled}
use Rattle.names.proofs.sheet.Sheet.of.Goals as goal

pub enter-first-requires : goal.enter-first-requires
enter-first-requires c =
    let known = c.args.known.now in
    let covered = c.args.covered.now in
    let few = names_few covered.mask covered.extra.now covered.good in
    (omega (arith, known_size _ known.known), omega arith, omega (arith, filled_size known.run covered.mask covered.extra.now known.known covered.good))

pub enter-count-requires : goal.enter-count-requires
enter-count-requires c =
    let known = c.args.known.now in
    let covered = c.args.covered.now in
    let few = names_few covered.mask covered.extra.now covered.good in
    let all = ap length (filled_all known.run covered.mask covered.extra.now known.known covered.good) in
    (omega (arith, short_extra _ covered.good), omega arith, omega (arith, all, filled_size known.run covered.mask covered.extra.now known.known covered.good))

pub returns : goal.returns
returns c =
    let known = c.args.known.now in
    let covered = c.args.covered.now in
    let all = ap length (filled_all known.run covered.mask covered.extra.now known.known covered.good) in
    let first = c.enter-first.ensures in
    record {
      names = filled _ _ _ known.known covered.good _ first.1 first.0 c.enter-count.ensures.1;
      runs = (refl, refl);
      count = omega (arith, all, filled_size known.run covered.mask covered.extra.now known.known covered.good);
    }
