use Rattle.join_generator.proofs.Accepted.{accepted_as}
use Rattle.join_generator.proofs.Short.{short_as}
use Rattle.join_generator.proofs.input.generate.Goals as goal

pub returns-clause-few : goal.returns-clause-few
returns-clause-few c =
    let made = c.in_ok-made.made in
    short_as c.args.n made.query made.build made.probe c.in_ok-made.ensures.query c.in_ok-made.ensures.build c.in_ok-made.ensures.probe

pub returns-clause-accepted : goal.returns-clause-accepted
returns-clause-accepted c =
    let made = c.in_ok-made.made in
    accepted_as c.args.n made.query made.build made.probe c.requires.most c.in_ok-made.ensures.query c.in_ok-made.ensures.build c.in_ok-made.ensures.probe
