use Rattle.dds_propose.proofs.rounds.row_weights.Goals as goal

pub come_to_rest-requires-clause-made : goal.come_to_rest-requires-clause-made
come_to_rest-requires-clause-made c = c.in_ok-weights.ensures.made c.args.carrying
