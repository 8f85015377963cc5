-- What a read gives waits in the buffer until the state takes it in; when a read gives nothing, all is taken in.
use Rattle.std.proofs.Common.{rules, arith, refl, length-take}
use Rattle.status_counts.proofs.Reading.{taken_more, taken_all}
use Rattle.status_counts.proofs.counted.Goals as goal

pub loop-i-preserved : goal.loop-i-preserved
loop-i-preserved g c =
    let loop = c.loop-i in
    let read = c.in_ok-n-2.ensures.bytes in
    record {
      size = search rules;
      within = search rules;
      room = omega (arith, c.take_in.ensures.most, length-take loop.n loop.buffer);
      taken =
          taken_more _ (g.R.Read.remaining loop.input) _ loop.state c.take_in.new.self _ _ loop.n _ loop.invariant.taken c.take_in.ensures read.0
          (λ z. read.1 z (omega arith));
    }

pub returns-clause-whole : goal.returns-clause-whole
returns-clause-whole g c =
    let loop = c.loop-i in
    taken_all _ _ loop.state _ _ loop.n loop.invariant.taken c.if-n-ne0.false (rw c.if-n-ne0.false refl) c.finish.ensures.0
