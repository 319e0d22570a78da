-- How a feed ends, or stops a run.
use Rattle.std.specs.Prelude.{Option, Some, Result, Ok, Err}
use Rattle.feed_frame.specs.declared.fault.FeedFault.{FeedFault}
use Rattle.feed_frame.specs.declared.fault.FeedFault.TheVariants as Fault
use Rattle.feed_run.specs.declared.stop.Stop.{Stop}

-- a fault of the source or of memory stops the run, and any other one ends the feed
abbrev pub ending_by : FeedFault → Result (Option FeedFault) Stop
ending_by Fault.ReadFault = Err Stop.ReadFault
ending_by Fault.NoMemory = Err Stop.NoMemory
ending_by fault = Ok (Some fault)
