pub mod Lists
pub mod Counting
pub mod Beginning
pub mod Exchanges
pub mod Responses
pub mod ReportMoves
pub mod Offers
pub mod EventMoves
pub mod EventLaw
pub mod Connections
pub mod Answering
pub mod Keeping
pub mod LaneMoves
pub mod Round
pub mod OutstationLaws
pub mod OutstationFragments
pub mod OutstationSteps
pub mod OutstationAnswers
pub mod OutstationRequests
pub mod OutstationConfirms
pub mod OutstationReports
pub mod OutstationCases
pub mod OutstationTimers
pub mod OutstationOpenings
pub mod OutstationChanges
pub mod OutstationAppends
pub mod MasterMoves
pub mod MasterAsks
pub mod OneLinkSending
pub mod OneLinkLists
pub mod OneLinkSteps
pub mod OneLinkComing
pub mod OneLinkArrivals
pub mod OneLinkRuns
pub mod JoinedWays
pub mod JoinedPoints
pub mod JoinedSteps
pub mod JoinedOctets
pub mod AskedCommands
pub mod JoinedMaster
pub mod JoinedChanges
pub mod JoinedEvents
pub mod JoinedHappenings
pub mod JoinedRuns
pub mod JoinedConclusions
pub mod MasterTakes
pub mod EndTakes
mod SystemPlaces
mod IdleLines
mod OneLinkIdle
mod SystemIdle
mod SystemRefusals
mod SystemArrivals
mod SystemTasks
mod SystemComing
mod MiddleEnds
mod SystemRuns
mod CarriedRuns
mod SystemSteps
mod SystemReadings
mod SystemCounts
mod BySubstations
mod Headline
mod Turning
mod SystemBeginning
mod Books
mod ListedAt
mod SystemMapping
mod SystemPlans
mod BelowKeeps
mod BelowEvents
mod BelowSteps
mod Issuing
mod CommandRequests
mod RelaySteps
mod RelayLinks
mod RelayWidths
mod RelayKeeps
mod Touches
mod EventTouches
mod EventPoints
mod EventsIssue
mod StepBooks
mod StepEvents
mod StepHappens
mod BelowCalls
mod AboveKeeps
mod AboveEvents
mod AboveTakes
mod AboveSteps
mod AboveComes
mod Restarting
mod NewSubstations
mod NewSystems
mod ReportReading
mod ReportLists
mod SystemRounds
mod SystemControls
mod HappenedRows
mod TakenPlans
mod QueuedRows
mod BelowTakes
mod BelowArrives
mod HappenedEvents
mod PlannedPoints
mod PlannedRows
mod PlannedMasters
mod PlannedLanes
mod Lasting
mod ArrivingPorts
mod ArrivingLines
mod ArrivingLinks
mod ArrivingUnits
mod ArrivingTakes
mod Arriving
mod ArrivingApart
mod Opening
mod PolledTaken
mod Settling
mod RoundSteps
mod RoundExchange
mod AllQueued
mod RoundBelow
mod RoundAbove
mod RepeatedPoll
mod RepeatedRequests
mod RoundMoves
mod ControlAnswers
mod ControlAnswering
mod ControlHearing
mod ControlBooks
mod ControlArrivals
mod ControlAccepts
mod ControlsAccepted
mod ControlsAbove
mod ControlsBelow
mod ControlsToSubstations
mod ControlsOther
mod ControlsRefused
mod ControlsStarting
mod ControlsClean
mod ControlsMoved
mod Reopening
mod Restarted
mod EachCentre
mod Beside
mod PerCentre
mod Elsewhere
mod LeftBooks
mod FromThere
mod Both
mod Seen
mod MovesForAll
mod CentrePlaces
mod CentreIssues
mod CentreReads
mod CentreStores
mod NewWholes
mod SystemCalls
pub mod OnResults
pub mod Telling
