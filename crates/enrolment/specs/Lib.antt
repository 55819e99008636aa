pub mod Enrolment
