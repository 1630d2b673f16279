use Rattle.std.proofs.Common.{◌++◌, get_or, None}
use Rattle.df_machine.specs.Events.{acknowledgement}
use Rattle.df_machine.proofs.FlightNames.{fits_first, fits_second}
use Rattle.df_machine.proofs.store.push_acknowledgements.Goals as goal

pub push_acknowledgement-requires-clause-fits : goal.push_acknowledgement-requires-clause-fits
push_acknowledgement-requires-clause-fits c =
    let n = c.args.cell.0 in let x = c.args.operands.now in
    fits_first c.args.packets.now.names c.args.packets.now.packets (acknowledgement n 0 (get_or x 0 None)) (acknowledgement n 1 (get_or x 1 None) ++ acknowledgement n 2 (get_or x 2 None)) c.requires.fits

pub push_acknowledgement-requires-2-clause-fits : goal.push_acknowledgement-requires-2-clause-fits
push_acknowledgement-requires-2-clause-fits c =
    let n = c.args.cell.0 in let x = c.args.operands.now in let first = c.push_acknowledgement.ensures in let mid = c.push_acknowledgement.new.packets in
    fits_first mid.names mid.packets (acknowledgement n 1 (get_or x 1 None)) (acknowledgement n 2 (get_or x 2 None))
    (fits_second c.args.packets.now.names mid.names c.args.packets.now.packets (acknowledgement n 0 (get_or x 0 None)) (acknowledgement n 1 (get_or x 1 None) ++ acknowledgement n 2 (get_or x 2 None))
    mid.packets c.requires.fits first.items first.names)
