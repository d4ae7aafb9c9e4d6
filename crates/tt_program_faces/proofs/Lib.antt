mod FaceCalls
mod FaceTexts
