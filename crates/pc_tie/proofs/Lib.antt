mod Meetings
mod Milestones
mod Owners
mod Steps
mod Visits
