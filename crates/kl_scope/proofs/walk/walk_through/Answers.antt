use Rattle.kl_scope.proofs.walk.walk_through.Goals as goal

pub returns : goal.returns
returns c = record {
  start = record { alloc = c.args.alloc; names = c.in_ok-names.names; findings = c.in_ok-findings.findings };
  names = c.in_ok-names.ensures;
  findings = c.in_ok-findings.ensures;
  walk = c.in_ok-program.ensures;
}
